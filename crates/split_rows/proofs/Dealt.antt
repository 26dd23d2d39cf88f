-- The pieces of a history with one row more.
use Rattle.std.proofs.Common.{ℕ, ◌≡◌, ◌<◌, ◌%◌, inl, inr, List, [], ◌∷◌, ◌++◌, Some, Bool, cond}
use Rattle.std.proofs.Common.{sym, ◌∙◌, ap, subst, arith}
use Rattle.std.specs.List.{slice_get}
use Rattle.std.proofs.lemmas.Bool.{cases_eq, cases_lt, eq-eqb, ne_eqb}
use Rattle.tag.specs.declared.actions.Action.{Action}
use Rattle.tag.specs.declared.numbers.OpId.{OpId}
use Rattle.tag.proofs.Lists.{place_of}
use Rattle.recorder.specs.declared.row.Row.{Row}
use Rattle.recorder.specs.declared.row.Row.TheVariants.{Invoke}
use Rattle.recorder.specs.Histories.{call_count, IsWellFormed}
use Rattle.recorder.specs.Records.{AreFirstSeen, BeginsAt}
use Rattle.split_rows.specs.Pieces.{op_of, with_op, with_row, ArePieces, IsCallOf, IsKeyOf, IsPiece}
use Rattle.split_rows.proofs.Rows.{began_on, number_below, one_key}
use Rattle.split_rows.proofs.Stepping.{piece_same, piece_more}

-- ---- keys

-- a key has one number
pub one_number_of_key : (rows : List Row) (keys : List (List ℕ)) → AreFirstSeen rows keys → (i j : ℕ) (key : List ℕ)
    → slice_get keys i ≡ Some key → slice_get keys j ≡ Some key → i ≡ j
one_number_of_key rows keys seen i j key at_i at_j =
    let s = seen.seen i key at_i in
    elim (cases_lt i j) [
      | inl h ↦ absurd (omega (arith, seen.ordered i j key key s.0 s.0 h at_i at_j s.1 s.1))
      | inr h ↦ elim (cases_lt j i) [
        | inl g ↦ absurd (omega (arith, seen.ordered j i key key s.0 s.0 g at_j at_i s.1 s.1))
        | inr g ↦ omega (arith, h, g)
      ]
    ]

-- so it is one piece's
pub one_piece : (rows : List Row) (keys : List (List ℕ)) → AreFirstSeen rows keys → (parts p q : ℕ) (key : List ℕ)
    → IsKeyOf parts keys p key → IsKeyOf parts keys q key → p ≡ q
one_piece rows keys seen parts p q key x y =
    let same = one_number_of_key rows keys seen x.0 y.0 key x.1 y.1 in
    sym x.2 ∙ (ap (λ (n : ℕ). n % parts) same ∙ y.2)

-- and so a call is
pub one_piece_of_call : (rows : List Row) → IsWellFormed rows → (keys : List (List ℕ)) → AreFirstSeen rows keys → (parts p q : ℕ) (op : OpId)
    → IsCallOf rows (IsKeyOf parts keys p) op → IsCallOf rows (IsKeyOf parts keys q) op → p ≡ q
one_piece_of_call rows formed keys seen parts p q op a b =
    let x = began_on rows formed a.0 op a.2 in
    let y = began_on rows formed b.0 op b.2 in
    let same : a.0 ≡ b.0 = sym x.2 ∙ (one_key rows formed x.0 y.0 op x.1 y.1 ∙ y.2) in
    one_piece rows keys seen parts p q b.0 (subst (IsKeyOf parts keys p) same a.1) b.1

-- its number is below their count
pub call_below : (rows : List Row) → IsWellFormed rows → (mine : List ℕ → Type 0) (op : OpId) → IsCallOf rows mine op → op.0 < call_count rows
call_below rows formed mine op of =
    let i = place_of rows (Invoke op of.2.0 of.0 of.2.1) of.2.2 in
    number_below rows formed i.0 (Invoke op of.2.0 of.0 of.2.1) i.1

-- ---- a piece by other words for its keys

-- where both hold of the same of the keys on which calls are begun
module _ (rows : List Row) (mine other : List ℕ → Type 0)
    (to : (key : List ℕ) (place : ℕ) → BeginsAt rows key place → mine key → other key)
    (from : (key : List ℕ) (place : ℕ) → BeginsAt rows key place → other key → mine key) where
  call_as : (op : OpId) → IsCallOf rows mine op → IsCallOf rows other op
  call_as op of =
      let i = place_of rows (Invoke op of.2.0 of.0 of.2.1) of.2.2 in
      (of.0, to of.0 i.0 (op, of.2.0, of.2.1, i.1) of.1, of.2)

  call_from : (op : OpId) → IsCallOf rows other op → IsCallOf rows mine op
  call_from op of =
      let i = place_of rows (Invoke op of.2.0 of.0 of.2.1) of.2.2 in
      (of.0, from of.0 i.0 (op, of.2.0, of.2.1, i.1) of.1, of.2)

  pub piece_as : (number : OpId → OpId) (piece : List Row) → IsPiece rows mine number piece → IsPiece rows other number piece
  piece_as number piece is = record {
    place = is.place;
    each = λ k row at.
        let f = is.each k row at in
        record { source = f.source; stands = f.stands; of = call_as (op_of f.source) f.of; is = f.is };
    all = λ at row stands of. is.all at row stands (call_from (op_of row) of);
    rises = is.rises;
    anew = is.anew;
  }

-- ---- keys, with one more or none

-- each key keeps its number
abbrev pub StillThere : List (List ℕ) → List (List ℕ) → Type 0
StillThere keys later = (n : ℕ) (key : List ℕ) → slice_get keys n ≡ Some key → slice_get later n ≡ Some key

module _ (parts : ℕ) (rows : List Row) (row : Row) (keys later : List (List ℕ)) (seen : AreFirstSeen rows keys)
    (now : AreFirstSeen (rows ++ row ∷ []) later) (still : StillThere keys later) (p : ℕ) where
  pub key_on : (key : List ℕ) → IsKeyOf parts keys p key → IsKeyOf parts later p key
  key_on key x = (x.0, still x.0 key x.1, x.2)

  key_before : (key : List ℕ) (place : ℕ) → BeginsAt rows key place → IsKeyOf parts later p key → IsKeyOf parts keys p key
  key_before key place begins x =
      let n = place_of keys key (seen.all key place begins) in
      let same = one_number_of_key (rows ++ row ∷ []) later now n.0 x.0 key (still n.0 key n.1) x.1 in
      (n.0, n.1, ap (λ (m : ℕ). m % parts) same ∙ x.2)

  pub piece_on : (number : OpId → OpId) (piece : List Row) → IsPiece rows (IsKeyOf parts keys p) number piece
      → IsPiece rows (IsKeyOf parts later p) number piece
  piece_on number piece is = piece_as rows (IsKeyOf parts keys p) (IsKeyOf parts later p) (λ key place b x. key_on key x) key_before number
      piece is

-- ---- the pieces

pub with_here : (pieces : ℕ → List Row) (p q : ℕ) (more : Row) → q ≡ p → with_row pieces p more q ≡ pieces q ++ more ∷ []
with_here pieces p q more same = ap (λ (b : Bool). cond b (pieces q ++ more ∷ []) (pieces q)) (eq-eqb q p same)

pub with_other : (pieces : ℕ → List Row) (p q : ℕ) (more : Row) → (q ≡ p → ⊥) → with_row pieces p more q ≡ pieces q
with_other pieces p q more apart = ap (λ (b : Bool). cond b (pieces q ++ more ∷ []) (pieces q)) (ne_eqb q p apart)

-- the row is of a call of that piece, under that number
module _ (parts : ℕ) (rows : List Row) (formed : IsWellFormed rows) (row : Row) (keys later : List (List ℕ)) (number next : OpId → OpId)
    (pieces : ℕ → List Row) (are : ArePieces parts rows keys number pieces) (now : AreFirstSeen (rows ++ row ∷ []) later)
    (still : StillThere keys later)
    (same : (op : OpId) → op.0 < call_count rows → next op ≡ number op)
    (p : ℕ) (own : IsCallOf (rows ++ row ∷ []) (IsKeyOf parts later p) (op_of row))
    (only : (q : ℕ) → IsCallOf (rows ++ row ∷ []) (IsKeyOf parts later q) (op_of row) → q ≡ p)
    (fresh : (op : OpId) (client : ℕ) (key : List ℕ) (action : Action) → row ≡ Invoke op client key action
    → (op.0 ≡ call_count rows) × ((next op).0 ≡ call_count (pieces p))) where
  before : (q : ℕ) → IsPiece rows (IsKeyOf parts later q) number (pieces q)
  before q = piece_on parts rows row keys later are.seen now still q number (pieces q) (are.each q)

  same_of : (q : ℕ) (op : OpId) → IsCallOf rows (IsKeyOf parts later q) op → next op ≡ number op
  same_of q op of = same op (call_below rows formed (IsKeyOf parts later q) op of)

  abbrev more : Row
  more = with_op row (next (op_of row))

  each_after : (q : ℕ) → IsPiece (rows ++ row ∷ []) (IsKeyOf parts later q) next (with_row pieces p more q)
  each_after q = elim (cases_eq q p) [
    | inl here ↦ subst (IsPiece (rows ++ row ∷ []) (IsKeyOf parts later q) next) (sym (with_here pieces p q more here))
        (piece_more rows row (IsKeyOf parts later q) number next (pieces q) (before q) (same_of q) formed
        (subst (λ (x : ℕ). IsCallOf (rows ++ row ∷ []) (IsKeyOf parts later x) (op_of row)) (sym here) own)
        (λ op client key action e.
        let f = fresh op client key action e in
        (f.0, f.1 ∙ ap (λ (x : ℕ). call_count (pieces x)) (sym here))))
    | inr apart ↦ subst (IsPiece (rows ++ row ∷ []) (IsKeyOf parts later q) next) (sym (with_other pieces p q more apart))
        (piece_same rows row (IsKeyOf parts later q) number next (pieces q) (before q) (same_of q) (λ of. apart (only q of)))
  ]

  pub pieces_after : ArePieces parts (rows ++ row ∷ []) later next (with_row pieces p (with_op row (next (op_of row))))
  pieces_after = record { seen = now; each = each_after }
