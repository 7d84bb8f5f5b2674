-- What a reader believes of the doubles, and the words that all definitions and answers are made of. The laws about these definitions are in proofs/Laws.
pub mod Num
pub mod Steps
pub mod Buffer
pub mod Sign
pub mod Answer
pub mod Inner
