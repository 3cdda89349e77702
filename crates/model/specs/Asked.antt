-- The tag of a change. A clock move has none.
use Rattle.std.specs.Prelude.{ℕ, Option, Some, None}
use Rattle.model.specs.declared.asked.Action.{Action}
use Rattle.model.specs.declared.asked.Action.TheVariants.{Set, Clear, Update, Advance}

abbrev pub tag_of : Action → Option ℕ
tag_of (Set tag reading) = Some tag
tag_of (Clear tag) = Some tag
tag_of (Update tag reading) = Some tag
tag_of Advance = None
