-- The 64 values of a memory, as the list that a store holds.
use Rattle.std.proofs.Common.{◌≡◌, ℕ, zero, suc, List, [], ◌∷◌, length, get_or, ℤ, pos, refl, ap, ◌∙◌, arith}
use Rattle.machine.specs.Memory.{Memory, firsts, held}

firsts_same : (n : ℕ) (f g : ℕ → ℤ) → ((v : ℕ) → f v ≡ g v) → firsts n f ≡ firsts n g
firsts_same zero f g e = refl
firsts_same (suc n) f g e = ap (λ x. x ∷ firsts n (λ k. f (suc k))) (e 0) ∙ ap (λ xs. g 0 ∷ xs) (firsts_same n (λ k. f (suc k)) (λ k. g (suc k)) (λ k. e (suc k)))

pub held_same : (m n : Memory) → ((v : ℕ) → m.values v ≡ n.values v) → held m ≡ held n
unfolding held
held_same m n e = firsts_same 64 m.values n.values e

firsts_list : (n : ℕ) (xs : List ℤ) (f : ℕ → ℤ) → length xs ≡ n → ((v : ℕ) → f v ≡ get_or xs v (pos 0)) → firsts n f ≡ xs
firsts_list zero [] f l h = refl
firsts_list zero (x ∷ xs) f l h = absurd (omega arith)
firsts_list (suc n) [] f l h = absurd (omega arith)
firsts_list (suc n) (x ∷ xs) f l h =
    ap (λ y. y ∷ firsts n (λ k. f (suc k))) (h 0) ∙ ap (λ ys. x ∷ ys) (firsts_list n xs (λ k. f (suc k)) (omega arith) (λ v. h (suc v)))

-- a memory that holds a store's values shows that store's list
pub held_list : (m : Memory) (xs : List ℤ) → length xs ≡ 64 → ((v : ℕ) → m.values v ≡ get_or xs v (pos 0)) → held m ≡ xs
unfolding held
held_list m xs l h = firsts_list 64 xs m.values l h
