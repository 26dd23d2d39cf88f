-- The part of a key, and the parts of a history, are one list.
use Rattle.std.proofs.Common.{ℕ, ◌≡◌, List, Option, Some, None, sym, ap, subst, refl, arith}
use Rattle.std.specs.List.{slice_get, Contains}
use Rattle.tag.specs.declared.actions.Action.{Action}
use Rattle.tag.specs.declared.numbers.OpId.{OpId}
use Rattle.tag.specs.Tags.{Tag}
use Rattle.recorder.specs.declared.row.Row.{Row}
use Rattle.recorder.specs.declared.row.Row.TheVariants.{Invoke, Note, Respond}
use Rattle.recorder.specs.declared.part.Call.{Call}
use Rattle.recorder.specs.declared.part.Response.{Response}
use Rattle.recorder.specs.Records.{IsRecorded, IsPart, IsFirstSeen, AreParts}
use Rattle.recorder.proofs.Sorted.{IsInOrder, same_in_order}

-- two options that are the same values are one
pub same_option : {X : Type 0} (a b : Option X) → ((x : X) → a ≡ Some x → b ≡ Some x) → ((x : X) → b ≡ Some x → a ≡ Some x) → a ≡ b
same_option None None left right = refl
same_option None (Some y) left right = right y refl
same_option (Some x) b left right = sym (left x refl)

-- a call is one record
made : OpId → ℕ → Action → Option Tag → ℕ → Option Response → Call
made op client action note invoked response = record { op = op; client = client; action = action; note = note; invoked = invoked; response = response }

pub same_call : (rows : List Row) (key : List ℕ) (a b : Call) → IsRecorded rows key a → IsRecorded rows key b → a.invoked ≡ b.invoked → a ≡ b
unfolding made
same_call rows key a b x y place =
    let rows_same : Invoke a.op a.client key a.action ≡ Invoke b.op b.client key b.action = cc (x.begun, y.begun, ap (slice_get rows) place) in
    let op : a.op ≡ b.op = cc in
    let client : a.client ≡ b.client = cc in
    let action : a.action ≡ b.action = cc in
    let note : a.note ≡ b.note = same_option a.note b.note
    (λ t e. (y.noted t).1 (subst (λ (o : OpId). Contains rows (Note o t)) op ((x.noted t).0 e)))
    (λ t e. (x.noted t).1 (subst (λ (o : OpId). Contains rows (Note o t)) (sym op) ((y.noted t).0 e))) in
    let response : a.response ≡ b.response = same_option a.response b.response
    (λ r e. (y.answered r.place r.returned).1 (subst (λ (o : OpId). slice_get rows r.place ≡ Some (Respond o r.returned)) op ((x.answered r.place r.returned).0 e)))
    (λ r e. (x.answered r.place r.returned).1 (subst (λ (o : OpId). slice_get rows r.place ≡ Some (Respond o r.returned)) (sym op) ((y.answered r.place r.returned).0 e))) in
    let same : made a.op a.client a.action a.note a.invoked a.response ≡ made b.op b.client b.action b.note b.invoked b.response = cc in
    same

-- each call of a part is one of the other
pub member : (rows : List Row) (key : List ℕ) (p q : List Call) → IsPart rows key p → IsPart rows key q → (call : Call) → Contains p call → Contains q call
member rows key p q a b call h =
    let x = a.each call h in
    let other = b.all call.invoked call.op call.client call.action x.begun in
    let same : other.0 ≡ call = same_call rows key other.0 call (b.each other.0 other.1) x other.2 in
    subst (λ (c : Call). Contains q c) same other.1

begins_at : Call → ℕ → Type 0
begins_at call m = call.invoked ≡ m

calls_in_order : (rows : List Row) (key : List ℕ) (p : List Call) → IsPart rows key p → IsInOrder Call begins_at p
unfolding begins_at
calls_in_order rows key p a = record {
  has = λ call h. (call.invoked, refl);
  rises = λ i j x y m n less at_i at_j e f. omega (arith, a.ordered i j x y less at_i at_j, e, f);
}

pub one_part : (rows : List Row) (key : List ℕ) (p q : List Call) → IsPart rows key p → IsPart rows key q → p ≡ q
one_part rows key p q a b = same_in_order Call begins_at p q (calls_in_order rows key p a) (calls_in_order rows key q b) (member rows key p q a b) (member rows key q p b a)

-- the same one level up: parts go by the place where their key is first seen
seen_at : List Row → List ℕ × List Call → ℕ → Type 0
seen_at rows e m = IsFirstSeen rows e.0 m

parts_in_order : (rows : List Row) (p : List (List ℕ × List Call)) → AreParts rows p → IsInOrder (List ℕ × List Call) (seen_at rows) p
unfolding seen_at
parts_in_order rows p a = record {
  has = λ e h. a.seen e.0 e.1 h;
  rises = λ i j x y m n less at_i at_j f g. a.ordered i j x.0 y.0 x.1 y.1 m n less at_i at_j f g;
}

member_part : (rows : List Row) (p q : List (List ℕ × List Call)) → AreParts rows p → AreParts rows q → (e : List ℕ × List Call) → Contains p e → Contains q e
member_part rows p q a b e h =
    let s = a.seen e.0 e.1 h in
    let other = b.all e.0 s.0 s.1.begins in
    let same : other.0 ≡ e.1 = one_part rows e.0 other.0 e.1 (b.each e.0 other.0 other.1) (a.each e.0 e.1 h) in
    subst (λ (part : List Call). Contains q (e.0, part)) same other.1

pub one_list : (rows : List Row) (p q : List (List ℕ × List Call)) → AreParts rows p → AreParts rows q → p ≡ q
one_list rows p q a b = same_in_order (List ℕ × List Call) (seen_at rows) p q (parts_in_order rows p a) (parts_in_order rows q b) (member_part rows p q a b) (member_part rows q p b a)
