-- How many words a line has.
use Rattle.std.specs.Prelude.{ℕ}
use Rattle.list_reader.specs.declared.Fed.{Fed}
use Rattle.list_reader.specs.declared.Fed.TheVariants.{More, Record, Bad}

-- the words that a line has so far, or had
abbrev pub count_of : Fed → ℕ
count_of (More r) = r.count
count_of (Record n) = n
count_of Bad = 0
