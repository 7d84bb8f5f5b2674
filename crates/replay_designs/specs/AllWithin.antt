-- The arrays of a record lie within its words.
use Rattle.list_reader.specs.Within.{Within}
use Rattle.replay_designs.specs.declared.arrays.Arrays.{Arrays}

pub record AllWithin (a : Arrays) : Type 0 where
  pub starts : Within a.starts
  pub rows : Within a.rows
  pub values : Within a.values
  pub first : Within a.first
  pub second : Within a.second
  pub lent : Within a.lent
