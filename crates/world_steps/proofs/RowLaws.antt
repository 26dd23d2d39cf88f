-- Rows at places.
use Rattle.std.proofs.Common.{◌≡◌, ◌≢◌, ℕ, ◌+◌, List, [], ◌∷◌, ◌++◌, cond, subst, inl, inr, arith}
use Rattle.tag.proofs.Lists.{push_cases, slice_get-push_left}
use Rattle.tag.specs.declared.actions.Action.{Action}
use Rattle.tag.specs.declared.numbers.OpId.{OpId}
use Rattle.recorder.specs.declared.row.Row.{Row}
use Rattle.recorder.specs.declared.row.Row.TheVariants.{Invoke}
use Rattle.recorder.specs.Histories.{is_invoke, call_count}
use Rattle.world_steps.specs.Sound.{At, RowsSound}

-- ---- one row more
abbrev pub more : List Row → Row → List Row
more R x = R ++ x ∷ []

-- what stands at a place, with further rows
abbrev pub Extends : List Row → List Row → Type 0
Extends R S = (p : ℕ) (row : Row) → At R p row → At S p row

pub extends : (R : List Row) (x : Row) → Extends R (more R x)
extends R x p row i = slice_get-push_left R x p row i

-- what another row than the new one stands at, it stood at before
pub before : (R : List Row) (x : Row) (p : ℕ) (y : Row) → x ≢ y → At (more R x) p y → At R p y
before R x p y ne h = elim (push_cases R x p y h) [ inl i ↦ i | inr e ↦ absurd (ne e.1) ]

-- how many calls the rows begin, with one row more
pub count_push : (R : List Row) (x : Row) → call_count (more R x) ≡ call_count R + cond (is_invoke x) 1 0
count_push [] x = omega arith
count_push (y ∷ R) x = omega (arith, count_push R x)

-- ---- a call has one client and one key
same_call : (R : List Row) → RowsSound R → (p q : ℕ) (o : OpId) (c d : ℕ) (k l : List ℕ) (a b : Action)
    → At R p (Invoke o c k a) → At R q (Invoke o d l b) → (c ≡ d) × (k ≡ l)
same_call R rows p q o c d k l a b i j =
    let once : p ≡ q = rows.once p q o c d k l a b i j in
    let here : At R q (Invoke o c k a) = subst (λ n. At R n (Invoke o c k a)) once i in
    (cc, cc)

pub same_client : (R : List Row) → RowsSound R → (p q : ℕ) (o : OpId) (c d : ℕ) (k l : List ℕ) (a b : Action)
    → At R p (Invoke o c k a) → At R q (Invoke o d l b) → c ≡ d
same_client R rows p q o c d k l a b i j = (same_call R rows p q o c d k l a b i j).0

pub same_key : (R : List Row) → RowsSound R → (p q : ℕ) (o : OpId) (c d : ℕ) (k l : List ℕ) (a b : Action)
    → At R p (Invoke o c k a) → At R q (Invoke o d l b) → k ≡ l
same_key R rows p q o c d k l a b i j = (same_call R rows p q o c d k l a b i j).1
