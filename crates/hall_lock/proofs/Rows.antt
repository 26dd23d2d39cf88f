-- Rows that come after others.
use Rattle.std.proofs.Common.{◌≡◌, ◌≤◌, ◌⊎◌, ℕ, true, false, true≢false, List, [], ◌∷◌, ◌++◌, Some, length, slice_get, sym, ap, ◌∙◌}
use Rattle.std.proofs.Common.{subst, ⊎_elim, append_assoc, append-nil, arith}
use Rattle.std.proofs.lemmas.Option.{slice_get_within}
use Rattle.tag.proofs.Lists.{in_first_or_late, push_cases, slice_get-append_left}
use Rattle.tag.specs.declared.numbers.OpId.{OpId}
use Rattle.recorder.specs.declared.row.Row.{Row}
use Rattle.recorder.specs.declared.row.Row.TheVariants.{Invoke, Note, Respond}
use Rattle.world_steps.specs.Lasting.{Began, Grows, IsRowOf}
use Rattle.world_steps.specs.Sound.{At}
use Rattle.hall_lock.specs.Turns.{IsOfAnother, OthersAdd}

-- a pass that has seen no client stopped knows of none
pub none_stopped : {A : Type 0} → false ≡ true → A
none_stopped e = absurd (true≢false (sym e))

pub grown_then : (a b c : List Row) → Grows a b → Grows b c → Grows a c
grown_then a b c x y = (x.0 ++ y.0, y.1 ∙ ap (λ l. l ++ y.0) x.1 ∙ append_assoc a x.0 y.0)

pub grown_not : (a : List Row) → Grows a a
grown_not a = ([], sym (append-nil a))

-- a row stays at its place
pub at_grown : (a b : List Row) → Grows a b → (place : ℕ) (row : Row) → At a place row → At b place row
at_grown a b grown place row is = subst (λ l. slice_get l place ≡ Some row) (sym grown.1) (slice_get-append_left a grown.0 place row is)

-- a row of the longer list stands in the shorter one, or after it
pub old_or_new : (a b : List Row) → Grows a b → (place : ℕ) (row : Row) → At b place row → At a place row ⊎ (length a ≤ place)
old_or_new a b grown place row is = in_first_or_late a grown.0 place row (subst (λ l. slice_get l place ≡ Some row) grown.1 is)

began_grown : (a b : List Row) → Grows a b → (name : ℕ) (op : OpId) → Began a name op → Began b name op
began_grown a b grown name op began = record {
  place = began.place;
  key = began.key;
  action = began.action;
  is = at_grown a b grown began.place _ began.is;
}

pub row_grown : (a b : List Row) → Grows a b → (name : ℕ) (row : Row) → IsRowOf a name row → IsRowOf b name row
row_grown a b grown name (Invoke op client key action) is = is
row_grown a b grown name (Note op tag) is = began_grown a b grown name op is
row_grown a b grown name (Respond op returned) is = began_grown a b grown name op is

another_grown : (a b : List Row) → Grows a b → (client : ℕ) (row : Row) → IsOfAnother a client row → IsOfAnother b client row
another_grown a b grown client row is = record { name = is.name; apart = is.apart; is = row_grown a b grown is.name row is.is }

pub past_end : (a : List Row) (place : ℕ) (row : Row) → length a ≤ place → At a place row → {X : Type 0} → X
past_end a place row late is = let early = slice_get_within a place row is in absurd (omega arith)

-- nothing new
pub none_added : (client : ℕ) (rows : List Row) → OthersAdd client rows rows
none_added client rows = record { grown = grown_not rows; others = λ place row late is. past_end rows place row late is }

-- other clients' rows, and more of them
pub more_added : (client : ℕ) (a b c : List Row) → OthersAdd client a b → OthersAdd client b c → OthersAdd client a c
more_added client a b c first then = record {
  grown = grown_then a b c first.grown then.grown;
  others = λ place row late is. ⊎_elim
      (λ (old : At b place row). another_grown b c then.grown client row (first.others place row late old))
      (λ (new : length b ≤ place). then.others place row new is)
      (old_or_new b c then.grown place row is);
}

-- the row after a list
pub last_row : (xs : List Row) (x y : Row) (place : ℕ) → length xs ≤ place → slice_get (xs ++ x ∷ []) place ≡ Some y → x ≡ y
last_row xs x y place late is = ⊎_elim (λ (early : slice_get xs place ≡ Some y). past_end xs place y late early)
    (λ (last : (place ≡ length xs) × (x ≡ y)). last.1) (push_cases xs x place y is)
