-- Worked examples of the machine, on the chain with top 3.
use Rattle.std.specs.Prelude.{◌≡◌, ℕ, true, false, List, [], ◌∷◌, ℤ, pos, negsuc}
use Rattle.std.proofs.Math.Option.{some}
use Rattle.std.proofs.Math.Option as option
use Rattle.lattice.specs.Lattice.{Below}
use Rattle.lattice.specs.Chain.{chain}
use Rattle.records.specs.Refusals.{refusal}
use Rattle.policy.specs.Policy.{Set, none, add, Policy, leaf, erase, present_level, wipes}
use Rattle.sheet.specs.Sheet.{Sheet, Variable}
use Rattle.machine.specs.Command.{plus, minus, less, Command, skip, ◌⨾◌, set, combine, release, if_variable, while}
use Rattle.machine.specs.Typing.{outermost, WellTyped}
use Rattle.machine.specs.Memory.{cleared, raised}
use Rattle.machine.specs.Run.{calculate, Release}
use Rattle.machine.specs.Calls.{Call, Answer}
use Rattle.machine.specs.Machine.{State, bare, ready, step, passed, Step}
use Rattle.machine.specs.Sample.{sample}

abbrev pub variable : Policy → Variable
variable p = record { policy = p; fed = true }

-- four variables at the lowest level
abbrev pub public : Sheet
public = record { conditions = []; variables = variable (leaf 0) ∷ variable (leaf 0) ∷ variable (leaf 0) ∷ variable (leaf 0) ∷ []; permits = [] }

abbrev pub countdown : Command
countdown = set 1 (pos 3) ⨾ set 3 (pos 1) ⨾ while 1 (combine minus 1 1 3 ⨾ skip) ⨾ skip

abbrev pub counted : ℕ → Step
counted turns = passed public (some countdown) cleared turns

abbrev pub value_at : ℕ → State → ℤ
value_at v bare = pos 0
value_at v (ready sh p m) = m.values v

-- level 1 now, and level 3 once condition 0 has come up
abbrev pub transient : Policy
transient = erase 0 (leaf 1) (leaf 3)

-- a transient variable, and a count of some policy
abbrev pub counting : Policy → Sheet
counting p = record { conditions = 0 ∷ []; variables = variable transient ∷ variable p ∷ []; permits = [] }

-- branch on the one, and set the other in the branch
abbrev pub branching : Command
branching = if_variable 0 (set 1 (pos 1) ⨾ skip) skip ⨾ skip

-- Condition 0 opens the only permit, and condition 1 wipes variable 1.
abbrev pub permitting : (level : ℕ) → (from to : Policy) → Sheet
permitting level from to = record {
  conditions = level ∷ 0 ∷ [];
  variables = variable (leaf 3) ∷ variable (erase 1 (leaf 1) (leaf 1)) ∷ [];
  permits = record { conditions = 1; from = from; to = to } ∷ [];
}

-- what the permit stores while variable 0 holds 7 and these conditions are up
abbrev pub stored_under : Set → List Release
stored_under s = (passed (permitting 1 (leaf 3) (leaf 1)) (some (release 1 0 0)) (record { values = λ v. pos 7; up = s }) 0).releases

abbrev pub ReleaseWellTyped : (level : ℕ) → (from to : Policy) → Type 0
ReleaseWellTyped level from to = WellTyped (chain 3) (permitting level from to) outermost (release 1 0 0)

-- One variable, which may not be fed, at level 1 and wiped by condition 0; condition 0 is up, and no program is loaded.
abbrev pub wiped_only : State
wiped_only = ready (record { conditions = 0 ∷ []; variables = record { policy = transient; fed = false } ∷ []; permits = [] }) option.none (record { values = λ v. pos 0; up = add 0 none })

abbrev RefusedBy : ℕ → State → Call → Type 0
RefusedBy number st call = (step sample st call).answer ≡ Answer.refused (refusal number 0 0)

-- Calls that break more than one rule are refused by the first in order.
pub record FirstRuleAnswers : Type 0 where
  pub load_without_sheet : RefusedBy 10 bare (Call.load (0 ∷ []))
  pub look_without_sheet : RefusedBy 10 bare (Call.look 9 9)
  pub pass_without_sheet : RefusedBy 10 bare (Call.pass 0)
  pub image_without_sheet : RefusedBy 10 bare (Call.image 9 0)
  pub second_sheet_too_short : RefusedBy 1 wiped_only (Call.sheet (0 ∷ []))
  pub feed_undeclared : RefusedBy 24 wiped_only (Call.feed 9 (pos 1))
  pub feed_unfed_and_wiped : RefusedBy 19 wiped_only (Call.feed 0 (pos 1))
  pub look_unknown_at_undeclared : RefusedBy 23 wiped_only (Call.look 9 9)
  pub look_undeclared : RefusedBy 24 wiped_only (Call.look 0 9)
  pub ask_unknown_for_undeclared : RefusedBy 23 wiped_only (Call.ask 9 9)
  pub ask_undeclared : RefusedBy 21 wiped_only (Call.ask 0 9)
  pub image_unknown : RefusedBy 23 wiped_only (Call.image 9 0)
  pub image_too_low : RefusedBy 25 wiped_only (Call.image 0 0)
  pub image_too_short : RefusedBy 26 wiped_only (Call.image 1 63)

pub record MachineExamples : Type 0 where
  pub sums_wrap : calculate plus (pos 2147483647) (pos 1) ≡ negsuc 2147483647
  pub less_is_signed : calculate less (negsuc 0) (pos 0) ≡ pos 1
  pub countdown_well_typed : WellTyped (chain 3) public outermost countdown
  pub three_turns : (counted 3).answer ≡ Answer.done 3
  pub two_turns : (counted 2).answer ≡ Answer.spent 2
  pub two_turns_value : value_at 1 (counted 2).next ≡ pos 1
  pub no_turns : (counted 0).answer ≡ Answer.spent 0
  -- a count that stays readable would tell, after the wiping, which branch was taken
  pub lasting_count_refused : WellTyped (chain 3) (counting (leaf 1)) outermost branching → ⊥
  pub wiped_count_accepted : WellTyped (chain 3) (counting transient) outermost branching
  -- whatever the policy of a count that level 1 may read: condition 0 wipes it
  pub readable_count_wiped : (p : Policy) → Below (chain 3) (present_level (chain 3) p) 1 → WellTyped (chain 3) (counting p) outermost branching → wipes 0 p ≡ true
  pub later_part_wipes_nothing : (raised (counting (erase 0 (leaf 1) (erase 1 (leaf 1) (leaf 3)))) 1 (record { values = λ v. pos 7; up = none })).values 1 ≡ pos 7
  pub shut_permit_stores_zero : stored_under none ≡ record { target = 1; value = pos 0 } ∷ []
  pub open_permit_stores_the_value : stored_under (add 0 none) ≡ record { target = 1; value = pos 7 } ∷ []
  pub dropped_release_stores_nothing : stored_under (add 0 (add 1 none)) ≡ []
  pub release_accepted : ReleaseWellTyped 1 (leaf 3) (leaf 1)
  pub source_flows_to_from : ReleaseWellTyped 1 (leaf 2) (leaf 1) → ⊥
  pub to_flows_to_target : ReleaseWellTyped 1 (leaf 3) (leaf 2) → ⊥
  pub permit_conditions_flow : ReleaseWellTyped 2 (leaf 3) (leaf 1) → ⊥
  pub rules_in_order : FirstRuleAnswers
