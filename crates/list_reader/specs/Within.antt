-- A part lies within the words of a record.
use Rattle.std.specs.Prelude.{◌+◌, ◌≤◌}
use Rattle.list_reader.specs.declared.parts.Part.{Part}

-- the array lies within the 1024 words; where the next part begins stays small
pub record Within (p : Part) : Type 0 where
  pub inside : p.at + p.count ≤ 1024
  pub next : p.next ≤ 1025
