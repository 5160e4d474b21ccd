-- A program that is loaded. Assumes nothing.
use Rattle.std.proofs.Common.{◌≡◌, ℕ, List, ℤ, Some, Ok, Err, Result, sym, refl, ap, ◌∙◌}
use Rattle.lattice.specs.Lattice.{Lattice, Lawful}
use Rattle.records.specs.declared.refusal.Refusal.{Refusal}
use Rattle.records.specs.Rules.{accepted}
use Rattle.machine.specs.Calls.{Call}
use Rattle.machine.specs.Machine.{ready, answered, loaded}
use Rattle.program.specs.declared.kept.Program.{Program}
use Rattle.program.specs.Loading.{ProgramRead, ProgramRefused}
use Rattle.program.proofs.Usable.{valid_usable}
use Rattle.interpreter.specs.Meaning.{meaning}
use Rattle.siteunit.specs.declared.kept.KeptSheet.{KeptSheet}
use Rattle.siteunit.specs.declared.site.SiteBox.{SiteBox}
use Rattle.siteunit.specs.Obeying.{answer_of, count, Obeys}
use Rattle.siteunit.proofs.Steps.{accepts, follows, goes, here, tells}

module _ {X Y : Type 0} (lattice : X → Lattice) (lawful : (x : X) → Lawful (lattice x)) (values : Y → List ℤ) (image : List ℤ → List ℕ) (b : SiteBox X Y) (k : KeptSheet) (is : b.sheet ≡ Some k) (bytes : List ℕ) where
  pub load_refused : (r : Result ℕ Refusal) (e : Refusal) → r ≡ Err e → ProgramRefused k.masks bytes e → Obeys lattice values image count b b (Call.load bytes) r
  load_refused r e is_err refused = tells lattice values image b k is count (Call.load bytes) r (λ sh p K.
      ap (loaded sh p (meaning values b.memory) bytes) (refused.answer (lattice b.lattice) sh (lawful b.lattice) (valid_usable (lattice b.lattice) sh K.valid) K.masks)
      ∙ sym (ap (λ x. answered (ready sh p (meaning values b.memory)) (answer_of count x)) is_err))

  pub load_done : (q : Program) → ProgramRead k.masks bytes q → Obeys lattice values image count b (record b { program = Some q }) (Call.load bytes) (Ok q.count)
  load_done q read = follows lattice values image b k is count (record b { program = Some q }) (Call.load bytes) (Ok q.count) refl (λ e h. accepts e h) (λ sh p R K.
      goes lattice values image b count (record b { program = Some q }) (Call.load bytes) (Ok q.count) (here lattice values image b k is sh p) (loaded sh p (meaning values b.memory) bytes (accepted read.command))
      (ap (loaded sh p (meaning values b.memory) bytes) (read.answer (lattice b.lattice) sh (lawful b.lattice) (valid_usable (lattice b.lattice) sh K.valid) K.masks)) (ap count read.count)
      (record { sheet = R.sheet; program = read.keeps; memory = refl; wiped = R.wiped }))
