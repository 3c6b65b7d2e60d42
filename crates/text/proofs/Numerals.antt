-- Laws of decimal numbers: one digit, one digit more, how many there can be, and that they read back as the number.
use mathlib.Core.Path.{◌≡◌, refl, sym, ap, ◌∙◌}
use mathlib.Core.List.{List, [], ◌∷◌, ◌++◌}
use Prim.Native.Nat.{ℕ, zero, suc, ◌+◌, ◌-◌, ◌*◌, ◌/◌, ◌%◌, ◌^◌, ◌≤◌, ◌<◌}
use native.Mathlib.Nat.{pow-succ'}
use native.Mathlib.Omega.{arith}
use borrow.Author.Tests.{lt-ltb, le-ltb}
use lib.Dec.{ltb}
use lib.ListN.{length, length-append}
use Rattle.words.specs.Choice.{if}
use Rattle.words.proofs.Choices.{yes_if, no_if, if_cases}
use Rattle.text.specs.Numerals.{digit, digits, decimal}

-- a number that is below two powers of ten has the same digits by either
same_digits : (k j n : ℕ) → n < 10 ^ suc k → n < 10 ^ suc j → digits (suc k) n ≡ digits (suc j) n
unfolding digits
same_digits zero zero n h g = refl
same_digits zero (suc j) n h g = let t = lt-ltb n 10 h in yes_if _ _ _ t ∙ sym (yes_if _ _ _ t)
same_digits (suc k) zero n h g = let t = lt-ltb n 10 g in yes_if _ _ _ t ∙ sym (yes_if _ _ _ t)
same_digits (suc k) (suc j) n h g =
    let low : n < 10 * 10 ^ suc k = rw (pow-succ') at h in
    let lowest : n < 10 * 10 ^ suc j = rw (pow-succ') at g in
    ap (λ (front : List ℕ). if (ltb n 10) (digit n ∷ []) (front ++ (digit (n % 10) ∷ []))) (same_digits k j (n / 10) (omega arith) (omega arith))

pub decimal_one : (n : ℕ) → n < 10 → decimal n ≡ digit n ∷ []
unfolding decimal digits
decimal_one n h = yes_if _ _ _ (lt-ltb n 10 h)

pub decimal_more : (n : ℕ) → 10 ≤ n → n < 10 ^ 20 → decimal n ≡ decimal (n / 10) ++ (digit (n % 10) ∷ [])
unfolding decimal digits
decimal_more n h small =
    no_if _ _ _ (le-ltb n 10 h)
    (ap (λ (front : List ℕ). front ++ (digit (n % 10) ∷ [])) (same_digits 18 19 (n / 10) (omega arith) (omega arith)))

digits-length : (k n : ℕ) → length (digits k n) ≤ k
unfolding digits
digits-length zero n = omega arith
digits-length (suc k) n =
    let front = digits-length k (n / 10) in
    if_cases (λ (d : List ℕ). length d ≤ suc k) _ _ _
    (λ t. omega arith)
    (λ t. let all = length-append (digits k (n / 10)) (digit (n % 10) ∷ []) in omega arith)

pub decimal-length : (n : ℕ) → length (decimal n) ≤ 20
unfolding decimal
decimal-length n = digits-length 20 n

-- ---- read back, the digits of a number are the number
-- the number that digits behind a number make
unfoldable pub read_on : ℕ → List ℕ → ℕ
read_on sofar [] = sofar
read_on sofar (d ∷ ds) = read_on (10 * sofar + (d - 48)) ds

read_last : (sofar : ℕ) (ds : List ℕ) (d : ℕ) → read_on sofar (ds ++ (d ∷ [])) ≡ 10 * read_on sofar ds + (d - 48)
unfolding read_on
read_last sofar [] d = refl
read_last sofar (e ∷ ds) d = read_last (10 * sofar + (e - 48)) ds d

read_digits : (k n : ℕ) → n < 10 ^ suc k → read_on 0 (digits (suc k) n) ≡ n
unfolding digits read_on
read_digits zero n h = rw (yes_if (ltb n 10) (digit n ∷ []) ([] ++ (digit (n % 10) ∷ [])) (lt-ltb n 10 h)) (omega arith)
read_digits (suc k) n h =
    let low : n < 10 * 10 ^ suc k = rw (pow-succ') at h in
    let front : read_on 0 (digits (suc k) (n / 10)) ≡ n / 10 = read_digits k (n / 10) (omega arith) in
    if_cases (λ (ds : List ℕ). read_on 0 ds ≡ n) _ _ _
    (λ t. omega arith)
    (λ t. read_last 0 (digits (suc k) (n / 10)) (digit (n % 10)) ∙ (rw front (omega arith)))

pub reads_back : (n : ℕ) → n < 10 ^ 20 → read_on 0 (decimal n) ≡ n
unfolding decimal
reads_back n h = read_digits 19 n h
