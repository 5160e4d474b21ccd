-- The rules and the bytes of an image. Assumes nothing.
use Rattle.std.proofs.Common.{◌≡◌, ℕ, zero, suc, ◌<◌, ◌≤◌, Bool, ◌&&◌, List, length, get_or, take, ℤ, sym, refl, ap, ◌∙◌, add-one, arith}
use Rattle.std.specs.List.{list_all}
use Rattle.std.proofs.lemmas.List.Folds.{list_all_more}
use Rattle.std.proofs.Math.Bool.{and_comm}
use Rattle.lattice.specs.Lattice.{Lattice}
use Rattle.sheet.specs.Sheet.{Sheet}
use Rattle.machine.specs.Memory.{every, held}
use Rattle.machine.specs.Machine.{readable_at}
use Rattle.machine.proofs.Values.{held_list}
use Rattle.interpreter.specs.Meaning.{memory_of}
use Rattle.siteunit.specs.declared.kept.KeptSheet.{KeptSheet}
use Rattle.siteunit.specs.Standing.{no_access, KeepsSheet}
use Rattle.siteunit.proofs.Steps.{is_readable}

every_all : {X : Type 0} (p : X → Bool) (xs : List X) (d : X) (n : ℕ) → n ≤ length xs → list_all p (take n xs) ≡ every n (λ v. p (get_or xs v d))
every_all p xs d zero h = refl
every_all p xs d (suc n) h = ap (λ j. list_all p (take j xs)) (sym (add-one n)) ∙ list_all_more p xs n d h ∙ and_comm (list_all p (take n xs)) (p (get_or xs n d)) ∙ ap (λ b. p (get_or xs n d) && b) (every_all p xs d n (omega arith))

every_same : (n : ℕ) (p q : ℕ → Bool) → ((v : ℕ) → v < n → p v ≡ q v) → every n p ≡ every n q
every_same zero p q h = refl
every_same (suc n) p q h = ap (λ b. b && every n p) (h n (omega arith)) ∙ ap (λ b. q n && b) (every_same n p q (λ v d. h v (omega arith)))

-- the rule on every variable's level, by what is kept
pub all_readable : (C : Lattice) (sh : Sheet) (k : KeptSheet) → KeepsSheet C sh k → (l : ℕ) → list_all (λ a. C.below a.present l) (take k.masks.variables k.access) ≡ every (length sh.variables) (readable_at C sh l)
all_readable C sh k K l =
    every_all (λ a. C.below a.present l) k.access no_access k.masks.variables (omega (arith, k.sizes.1, k.masks.counts.1)) ∙ every_same k.masks.variables _ _ (λ v d. is_readable C sh k K v l d)
    ∙ ap (λ n. every n (readable_at C sh l)) K.masks.variables

-- the machine's image is the store's
pub shown : (image : List ℤ → List ℕ) (xs : List ℤ) (u : ℕ) → length xs ≡ 64 → image (held (memory_of xs u)) ≡ image xs
shown image xs u long = ap image (held_list (memory_of xs u) xs long (λ v. refl))
