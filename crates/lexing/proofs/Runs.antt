-- Runs of bytes of one kind at the front of a text.
use Rattle.std.proofs.Common.{◌≡◌, ℕ, zero, suc, ◌+◌, ◌≤◌, Bool, true, false, cond, List, [], ◌∷◌, length, take, refl, ap, arith, one-add}
use Rattle.std.specs.List.{prefix_len, list_all}
use Rattle.std.proofs.lemmas.Bool.{and_parts, and_from, false≢true}
use Rattle.lexing.specs.Bytes.{is_digit}
use Rattle.lexing.specs.Numbers.{leading_digits}

pub run_passes : (p : ℕ → Bool) (text : List ℕ) → list_all p (take (prefix_len p text) text) ≡ true
run_passes p [] = refl
run_passes p (b ∷ text) = by (p b) refl (run_passes p text) where
  by : (t : Bool) → p b ≡ t → list_all p (take (prefix_len p text) text) ≡ true
      → list_all p (take (cond t (1 + prefix_len p text) 0) (b ∷ text)) ≡ true
  by true h all = rw one-add (and_from (p b) (list_all p (take (prefix_len p text) text)) h all)
  by false h all = refl

pub run_begins : (p : ℕ → Bool) (b : ℕ) (text : List ℕ) → p b ≡ true → prefix_len p (b ∷ text) ≡ suc (prefix_len p text)
run_begins p b text h = rw (h, one-add) refl

pub no_run : (p : ℕ → Bool) (b : ℕ) (text : List ℕ) → p b ≡ false → prefix_len p (b ∷ text) ≡ 0
no_run p b text h = rw h refl

-- a front of bytes that pass is within the run
pub within_run : (p : ℕ → Bool) (text : List ℕ) (m : ℕ) → m ≤ length text → list_all p (take m text) ≡ true → m ≤ prefix_len p text
within_run p text zero le h = omega arith
within_run p [] (suc m) le h = absurd (omega arith)
within_run p (b ∷ text) (suc m) le h =
    let parts = and_parts (p b) (list_all p (take m text)) h in
    by (p b) parts.0 (within_run p text m (omega arith) parts.1) where
      by : (t : Bool) → t ≡ true → m ≤ prefix_len p text → suc m ≤ cond t (1 + prefix_len p text) 0
      by true e later = omega arith
      by false e later = absurd (false≢true e)

pub leading_digits_are_a_run : (text : List ℕ) → leading_digits text ≡ take (prefix_len is_digit text) text
leading_digits_are_a_run [] = refl
leading_digits_are_a_run (b ∷ text) = by (is_digit b) (leading_digits_are_a_run text) where
  by : (t : Bool) → leading_digits text ≡ take (prefix_len is_digit text) text
      → cond t (b ∷ leading_digits text) [] ≡ take (cond t (1 + prefix_len is_digit text) 0) (b ∷ text)
  by true e = rw one-add (ap (λ bs. b ∷ bs) e)
  by false e = refl
