-- Which letters may stand where: C, V and R open items in the order of their sections, L and E stand in a tree.
use Rattle.std.specs.Prelude.{ℕ, cond, ◌==◌, Option, Some, None}
use Rattle.sheet.specs.declared.position.Section.{Section}
use Rattle.sheet.specs.declared.position.Section.TheVariants.{Conditions, Variables, Permits}
use Rattle.sheet.specs.declared.position.Item.{Item}
use Rattle.sheet.specs.declared.position.Item.TheVariants.{Condition, Variable, Permit}
use Rattle.sheet.specs.declared.position.Part.{Part}
use Rattle.sheet.specs.declared.position.Part.TheVariants.{Leaf, Node}

abbrev pub item_at : ℕ → Section → Option Item
item_at letter Conditions = cond (letter == 67) (Some Condition) (cond (letter == 86) (Some Variable) (cond (letter == 82) (Some Permit) None))
item_at letter Variables = cond (letter == 86) (Some Variable) (cond (letter == 82) (Some Permit) None)
item_at letter Permits = cond (letter == 82) (Some Permit) None

abbrev pub part_at : ℕ → Option Part
part_at letter = cond (letter == 76) (Some Leaf) (cond (letter == 69) (Some Node) None)

-- the section that is reached with so many variables and permits
abbrev pub section : ℕ → ℕ → Section
section variables permits = cond (permits == 0) (cond (variables == 0) Conditions Variables) Permits
