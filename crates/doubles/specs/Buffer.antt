-- What a lent buffer holds: "what lies beyond the room needed is unchanged".
use Rattle.std.specs.Prelude.{List, ◌++◌, ℕ, ◌+◌, length, take, drop}

-- l with xs in the place of what stands from index g on
unfoldable pub put : {A : Type 0} → List A → ℕ → List A → List A
put l g xs = take g l ++ (xs ++ drop (g + length xs) l)
