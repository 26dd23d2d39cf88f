-- How many writes on a key are noted.
use Rattle.std.proofs.Common.{◌≡◌, ℕ, zero, suc, ◌+◌, ◌<◌, ◌≤◌, ◌∙◌, Bool, true, false, ◌&&◌, ◌||◌, List, [], ◌∷◌, ◌++◌, refl, sym, ap, subst, inl, inr, arith, nat_eq, bytes_eq}
use Rattle.std.proofs.lemmas.Bool.{and_left, eq-eqb, or_right}
use Rattle.tag.specs.Tags.{Tag}
use Rattle.tag.specs.declared.numbers.OpId.{OpId}
use Rattle.tag.specs.declared.actions.Action.TheVariants.{Write}
use Rattle.recorder.specs.declared.row.Row.{Row}
use Rattle.recorder.specs.declared.row.Row.TheVariants.{Invoke, Note}
use Rattle.recorder.specs.Histories.{call_count}
use Rattle.replica.specs.declared.pairs.Pair.{Pair}
use Rattle.world_steps.specs.Sound.{At, IsFromWrite, IsGood, RowsSound, begins_write, count_below, is_noted, is_noted_write, is_write_on, write_count}
use Rattle.world_steps.specs.Sound.IsGood.{Unwritten, Wrote}
use Rattle.world_steps.proofs.Counts.{now_noted, or_false, or_or, stays_noted}
use Rattle.world_steps.proofs.CountBelow.{count_one_more, count_rises, count_wider}
use Rattle.world_steps.proofs.Frames.{written_more}
use Rattle.world_steps.proofs.RowLaws.{Extends, more, count_push}

-- ---- writes on a key, with one row more
write_push : (key : List ℕ) (R : List Row) (x : Row) (n : ℕ) → is_write_on (R ++ x ∷ []) key n ≡ (is_write_on R key n || begins_write key n x)
write_push key [] x n = or_false (begins_write key n x)
write_push key (y ∷ R) x n = ap (λ b. begins_write key n y || b) (write_push key R x n) ∙ or_or (begins_write key n y) (is_write_on R key n) (begins_write key n x)

stays_write : (key : List ℕ) (R : List Row) (x : Row) (n : ℕ) → is_write_on R key n ≡ true → is_write_on (R ++ x ∷ []) key n ≡ true
stays_write key R x n e = write_push key R x n ∙ ap (λ b. b || begins_write key n x) e

both : (a b c d : Bool) → (a ≡ true → c ≡ true) → (b ≡ true → d ≡ true) → (a && b) ≡ true → (c && d) ≡ true
both true true c d f g h = ap (λ x. x && d) (f refl) ∙ g refl
both true false c d f g h = absurd cc
both false b c d f g h = absurd cc

stays_noted_write : (key : List ℕ) (R : List Row) (x : Row) (n : ℕ) → is_noted_write R key n ≡ true → is_noted_write (R ++ x ∷ []) key n ≡ true
stays_noted_write key R x n =
    both (is_noted R n) (is_write_on R key n) (is_noted (R ++ x ∷ []) n) (is_write_on (R ++ x ∷ []) key n) (stays_noted R x n) (stays_write key R x n)

-- the count never falls
pub write_count_rises : (key : List ℕ) (R : List Row) (x : Row) (k : ℕ) → call_count (more R x) ≡ call_count R + k → write_count R key ≤ write_count (more R x) key
write_count_rises key R x k e =
    let a : write_count R key ≤ count_below (is_noted_write (more R x) key) (call_count R) = count_rises (is_noted_write R key) (is_noted_write (more R x) key) (stays_noted_write key R x) (call_count R) in
    let b : count_below (is_noted_write (more R x) key) (call_count R) ≤ write_count (more R x) key =
    subst (λ z. count_below (is_noted_write (more R x) key) (call_count R) ≤ count_below (is_noted_write (more R x) key) z) (sym e) (count_wider (is_noted_write (more R x) key) (call_count R) k) in
    omega (arith, a, b)

same_bytes : (bytes : List ℕ) → bytes_eq bytes bytes ≡ true
same_bytes [] = refl
same_bytes (x ∷ xs) = ap (λ b. b && bytes_eq xs xs) (eq-eqb x x refl) ∙ same_bytes xs

begins : (op : OpId) (c : ℕ) (key value : List ℕ) → begins_write key op.0 (Invoke op c key (Write value)) ≡ true
begins op c key value = ap (λ b. b && bytes_eq key key) (eq-eqb op.0 op.0 refl) ∙ same_bytes key

-- a write that was begun is one of its key
write_there : (R : List Row) (p : ℕ) (op : OpId) (c : ℕ) (key value : List ℕ) → At R p (Invoke op c key (Write value)) → is_write_on R key op.0 ≡ true
write_there [] p op c key value i = absurd cc
write_there (x ∷ R) zero op c key value i =
    let e : Invoke op c key (Write value) ≡ x = cc in
    ap (λ b. b || is_write_on R key op.0) (subst (λ y. begins_write key op.0 y ≡ true) e (begins op c key value))
write_there (x ∷ R) (suc p) op c key value i = or_right (begins_write key op.0 x) (is_write_on R key op.0) (write_there R p op c key value i)

-- a write's first note: one more write on its key is noted
pub write_count_note : (R : List Row) (p : ℕ) (op : OpId) (c : ℕ) (key value : List ℕ) (tag : Tag) → At R p (Invoke op c key (Write value)) → op.0 < call_count R → is_noted R op.0 ≡ false
    → write_count R key + 1 ≤ write_count (more R (Note op tag)) key
write_count_note R p op c key value tag i fresh quiet =
    let x : Row = Note op tag in
    let n : call_count (more R x) ≡ call_count R + 0 = count_push R x in
    let same : call_count R ≡ call_count (more R x) = omega (arith, n) in
    let write : is_write_on (more R x) key op.0 ≡ true = stays_write key R x op.0 (write_there R p op c key value i) in
    let now : is_noted_write (more R x) key op.0 ≡ true = ap (λ b. b && is_write_on (more R x) key op.0) (now_noted R op tag (nat_eq op.0 op.0) refl) ∙ write in
    subst (λ z. write_count R key + 1 ≤ count_below (is_noted_write (more R x) key) z) same
    (count_one_more (is_noted_write R key) (is_noted_write (more R x) key) (stays_noted_write key R x) op.0 (and_left (is_noted R op.0) (is_write_on R key op.0) quiet) now (call_count R) fresh)

-- ---- good pairs
pub good_from : (R : List Row) (key : List ℕ) (pair : Pair) → IsGood R key pair → IsFromWrite R key pair.tag
good_from R key pair (Unwritten e) = inl (ap (λ (p : Pair). p.tag) e)
good_from R key pair (Wrote s) = inr s.write

pub from_more : (R S : List Row) → Extends R S → (key : List ℕ) (tag : Tag) → IsFromWrite R key tag → IsFromWrite S key tag
from_more R S ext key tag (inl e) = inl e
from_more R S ext key tag (inr w) = inr (written_more R S ext key tag w)

pub from_counted : (R : List Row) → RowsSound R → (key : List ℕ) (tag : Tag) → IsFromWrite R key tag → tag.number ≤ write_count R key
from_counted R rows key tag (inl e) = let z : tag.number ≡ 0 = ap (λ (t : Tag). t.number) e in omega (arith, z)
from_counted R rows key tag (inr w) = rows.counted w.place w.note w.op w.client key w.value tag w.invoked w.noted
