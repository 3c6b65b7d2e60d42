-- What a writer wrote, one thing behind another.
use Rattle.std.proofs.Common.{◌≡◌, ℕ, ◌+◌, ◌<◌, ◌≤◌, List, [], ◌∷◌, ◌++◌, length, get_or, take, ap, sym, refl, ◌∙◌, add-zero, arith, length-append, append-nil, append_assoc}
use Rattle.std.proofs.lemmas.List.{take_more}
use Rattle.words.proofs.Rooms.{sets_append}
use Rattle.text.specs.declared.put.Writer.{Writer}
use Rattle.text.specs.Lines.{each}
use Rattle.text.specs.Rooms.{Wrote}

-- nothing
pub nothing : (w : Writer) → Wrote [] w w
nothing w = record { same = refl; end = λ fits. sym (add-zero w.end); room = λ fits. refl }

-- some bytes, and others behind them
pub then : {a b : List ℕ} {old between new : Writer} → Wrote a old between → Wrote b between new → Wrote (a ++ b) old new
then {a} {b} {old} {between} {new} first second =
    let size = length-append a b in
    record {
      same = second.same ∙ first.same;
      end = λ fits.
          let all : old.end + length (a ++ b) ≤ 16384 = fits in
          let half = first.end (omega arith) in
          let whole = second.end (omega arith) in
          omega arith;
      room = λ fits.
          let all : old.end + length (a ++ b) ≤ 16384 = fits in
          let half = first.end (omega arith) in
          second.room (omega arith) ∙ (rw (first.room (omega arith), half) (sym (sets_append old.room.now old.end a b)));
    }

-- ---- what each of some things adds, one turn on
each_more : {A : Type 0} (f : A → List ℕ) (xs : List A) (x : A) → each f (xs ++ x ∷ []) ≡ each f xs ++ f x
unfolding each
each_more f [] x = append-nil (f x)
each_more f (y ∷ xs) x = ap (λ later. f y ++ later) (each_more f xs x) ∙ sym (append_assoc (f y) (each f xs) (f x))

pub each_turn : {A : Type 0} (f : A → List ℕ) (xs : List A) (i : ℕ) (d : A) → i < length xs → each f (take (i + 1) xs) ≡ each f (take i xs) ++ f (get_or xs i d)
each_turn f xs i d h = rw (take_more xs i d h) (each_more f (take i xs) (get_or xs i d))
