-- The rules on sheets and programs are needed: with readers that accept what breaks one of them, an observer tells two boxes apart.
use Rattle.std.specs.Prelude.{◌≡◌, List, [], ◌∷◌, ℤ, pos}
use Rattle.lattice.specs.Chain.{chain}
use Rattle.records.specs.Rules.{accepted}
use Rattle.policy.specs.Policy.{Set, none, add, leaf}
use Rattle.sheet.specs.Sheet.{Sheet}
use Rattle.machine.specs.Command.{Command, skip, ◌⨾◌, set, combine, plus, raise, if_variable, if_condition, while}
use Rattle.machine.specs.Calls.{Call}
use Rattle.machine.specs.Machine.{System, State, bare, history, final}
use Rattle.machine.specs.Observation.{Observer, observed_answers, SameInput}
use Rattle.machine.specs.Promises.{observing}
use Rattle.machine.specs.Examples.{variable, transient}

-- a box whose readers accept this sheet and this program, whatever the bytes
abbrev pub lax : Sheet → Command → System
lax sh c = record { lattice = chain 3; readers = record { sheet = λ C bytes. accepted sh; program = λ C s bytes. accepted c }; image = λ values. [] }

-- from a state each: what goes in is the same to the observer, and what comes out is not
pub record ToldApart (S : System) (o : Observer) (st st' : State) (cs ds : List Call) : Type 0 where
  pub input : SameInput S.lattice S.lattice o (history S st cs) (history S st' ds)
  pub different : observed_answers S.lattice o (history S st cs) ≡ observed_answers S.lattice o (history S st' ds) → ⊥

-- variable 0 and condition 1 at level 3, variable 1 and condition 0 at level 1, variable 2 at the lowest level
abbrev pub secrets : Sheet
secrets = record { conditions = 1 ∷ 3 ∷ []; variables = variable (leaf 3) ∷ variable (leaf 1) ∷ variable (leaf 0) ∷ []; permits = [] }

-- the secret is fed, the program runs, and level 1 asks for all that it may know
abbrev pub fed : ℤ → List Call
fed x = Call.sheet [] ∷ Call.load [] ∷ Call.feed 0 x ∷ Call.pass 5 ∷ Call.look 1 1 ∷ Call.ask 1 0 ∷ []

abbrev pub Leaks : Command → Type 0
Leaks c = ToldApart (lax secrets c) (observing 1 none) bare bare (fed (pos 1)) (fed (pos 0))

-- what level 1 does after condition 1 was raised, or was not
abbrev pub asking : List Call
asking = Call.load [] ∷ Call.pass 5 ∷ Call.look 1 1 ∷ []

abbrev pub only_first : Set
only_first = add 0 none

-- condition 0 wipes variable 0, and nothing wipes variable 1
abbrev pub copied : Sheet
copied = record { conditions = 0 ∷ []; variables = variable transient ∷ variable (leaf 1) ∷ []; permits = [] }

abbrev pub copying : ℤ → List Call
copying x = Call.sheet [] ∷ Call.load [] ∷ Call.feed 0 x ∷ Call.pass 5 ∷ Call.raise 0 ∷ Call.look 1 1 ∷ []

-- condition 0 at level 3 wipes a variable at level 1
abbrev pub wiping : System
wiping = lax (record { conditions = 3 ∷ []; variables = variable transient ∷ []; permits = [] }) skip

-- variable 0 is fed, and condition 0 is not raised
abbrev pub begin : ℤ → List Call
begin x = Call.sheet [] ∷ Call.feed 0 x ∷ []

abbrev pub begun : ℤ → State
begun x = final (lax copied skip) bare (begin x)

pub record RulesAreNeeded : Type 0 where
  pub reads_flow : Leaks (combine plus 1 0 0)
  pub tests_flow_into_first_blocks : Leaks (if_variable 0 (set 1 (pos 1)) skip)
  pub tests_flow_into_second_blocks : Leaks (if_variable 0 skip (set 1 (pos 1)))
  pub outer_tests_flow_into_second_blocks : Leaks (if_variable 0 (if_condition 0 skip (set 1 (pos 1))) skip)
  pub tests_flow_into_raises : Leaks (if_variable 0 (raise 0) skip)
  pub loops_test_the_lowest : Leaks (while 0 (set 0 (pos 0)))
  pub loops_stand_at_the_lowest : Leaks (set 2 (pos 1) ⨾ if_variable 0 (while 2 skip) skip)
  pub conditions_flow : ToldApart (lax secrets (if_condition 1 (set 1 (pos 1)) skip)) (observing 1 none) bare bare (Call.sheet [] ∷ Call.raise 1 ∷ asking) (Call.sheet [] ∷ asking)
  -- present levels would let the copy pass
  pub later_levels_count : ToldApart (lax copied (combine plus 1 0 0)) (observing 1 only_first) bare bare (copying (pos 7)) (copying (pos 9))
  pub wipers_are_below : ToldApart wiping (observing 1 none) bare bare (Call.sheet [] ∷ Call.raise 0 ∷ Call.feed 0 (pos 7) ∷ []) (begin (pos 7))
  -- two boxes alike under the set; where the set is not up, what it is to wipe can still be seen
  pub alike_before_the_cuts : SameInput (chain 3) (chain 3) (observing 1 only_first) (history (lax copied skip) bare (begin (pos 7))) (history (lax copied skip) bare (begin (pos 9)))
  pub the_set_is_up : ToldApart (lax copied skip) (observing 1 none) (begun (pos 7)) (begun (pos 9)) (Call.look 1 0 ∷ []) (Call.look 1 0 ∷ [])
