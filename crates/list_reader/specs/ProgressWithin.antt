-- What holds of a replay's progress from record to record.
use Rattle.std.specs.Prelude.{◌≤◌}
use Rattle.list_reader.specs.declared.progress.Progress.{Progress}

-- the bytes that are not taken yet lie within the buffer, the words of the line begun and of the record found within the words
pub record ProgressWithin (p : Progress) : Type 0 where
  pub bytes : p.end ≤ 4096
  pub words : p.reader.count ≤ 1024
  pub found : p.found ≤ 1024
