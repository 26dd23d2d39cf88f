-- Calls as the rows record them: a call's number tells it, whatever its key.
use Rattle.std.proofs.Common.{ℕ, zero, suc, ◌≡◌, ◌<◌, inl, inr, List, [], ◌∷◌, Option, Some, None, true, take, sym, ◌∙◌, ap}
use Rattle.std.proofs.Common.{subst, refl, arith}
use Rattle.std.specs.List.{slice_get, Contains}
use Rattle.std.proofs.lemmas.Bool.{cases_lt}
use Rattle.std.proofs.lemmas.List.{take-take}
use Rattle.tag.specs.declared.actions.Action.{Action}
use Rattle.tag.specs.declared.actions.Returned.{Returned}
use Rattle.tag.specs.declared.numbers.OpId.{OpId}
use Rattle.tag.specs.Tags.{Tag}
use Rattle.tag.proofs.Lists.{place_of, slice_get-take, in_front, Contains-slice_get}
use Rattle.recorder.specs.declared.row.Row.{Row}
use Rattle.recorder.specs.declared.row.Row.TheVariants.{Invoke, Note, Respond}
use Rattle.recorder.specs.declared.part.Call.{Call}
use Rattle.recorder.specs.declared.part.Response.{Response}
use Rattle.recorder.specs.Histories.{is_invoke, call_count, IsWellFormed}
use Rattle.recorder.specs.Parts.{IsSequence}
use Rattle.recorder.specs.Records.{IsPart, IsRecorded}

-- ---- what a call's place tells (recorder has the same for the calls of one part)

-- two options that are the same values are one
same_option : {X : Type 0} (a b : Option X) → ((x : X) → a ≡ Some x → b ≡ Some x) → ((x : X) → b ≡ Some x → a ≡ Some x) → a ≡ b
same_option None None left right = refl
same_option None (Some y) left right = right y refl
same_option (Some x) b left right = sym (left x refl)

-- a call is one record
made : OpId → ℕ → Action → Option Tag → ℕ → Option Response → Call
made op client action note invoked response =
    record { op = op; client = client; action = action; note = note; invoked = invoked; response = response }

-- two calls that begin at one place have one key, and are one
pub same_key : (rows : List Row) (k l : List ℕ) (a b : Call) → IsRecorded rows k a → IsRecorded rows l b → a.invoked ≡ b.invoked → k ≡ l
same_key rows k l a b x y place =
    let row : Invoke a.op a.client k a.action ≡ Invoke b.op b.client l b.action = cc (x.begun, y.begun, ap (slice_get rows) place) in
    cc

pub same_call : (rows : List Row) (k l : List ℕ) (a b : Call) → IsRecorded rows k a → IsRecorded rows l b → a.invoked ≡ b.invoked → a ≡ b
unfolding made
same_call rows k l a b x y place =
    let row : Invoke a.op a.client k a.action ≡ Invoke b.op b.client l b.action = cc (x.begun, y.begun, ap (slice_get rows) place) in
    let op : a.op ≡ b.op = cc in
    let client : a.client ≡ b.client = cc in
    let action : a.action ≡ b.action = cc in
    let note : a.note ≡ b.note = same_option a.note b.note
    (λ t e. (y.noted t).1 (subst (λ (o : OpId). Contains rows (Note o t)) op ((x.noted t).0 e)))
    (λ t e. (x.noted t).1 (subst (λ (o : OpId). Contains rows (Note o t)) (sym op) ((y.noted t).0 e))) in
    let response : a.response ≡ b.response = same_option a.response b.response
    (λ r e. (y.answered r.place r.returned).1 (subst (λ (o : OpId). slice_get rows r.place ≡ Some (Respond o r.returned)) op
    ((x.answered r.place r.returned).0 e)))
    (λ r e. (x.answered r.place r.returned).1 (subst (λ (o : OpId). slice_get rows r.place ≡ Some (Respond o r.returned)) (sym op)
    ((y.answered r.place r.returned).0 e))) in
    let same : made a.op a.client a.action a.note a.invoked a.response ≡ made b.op b.client b.action b.note b.invoked b.response = cc in
    same

-- a call that is recorded on a key is one of the key's part
pub in_part : (rows : List Row) (key : List ℕ) (part : List Call) → IsPart rows key part → (call : Call) → IsRecorded rows key call
    → Contains part call
in_part rows key part is call recorded =
    let other = is.all call.invoked call.op call.client call.action recorded.begun in
    let same = same_call rows key key other.0 call (is.each other.0 other.1) recorded other.2 in
    subst (λ (c : Call). Contains part c) same other.1

-- ---- what a call's number tells, in a history

-- how many calls the rows begin before a row that begins one
count_below : (rows : List Row) (i : ℕ) (row : Row) → slice_get rows i ≡ Some row → is_invoke row ≡ true
    → call_count (take i rows) < call_count rows
count_below [] i row h b = absurd (cc)
count_below (r ∷ rows) zero row h b = let same : is_invoke r ≡ true = cc in rw same (omega arith)
count_below (r ∷ rows) (suc i) row h b = omega (arith, count_below rows i row h b)

module _ (rows : List Row) (formed : IsWellFormed rows) where
  -- numbers rise with the places
  numbers_rise : (i j : ℕ) (a b : OpId) (c d : ℕ) (k l : List ℕ) (x y : Action) → i < j → slice_get rows i ≡ Some (Invoke a c k x)
      → slice_get rows j ≡ Some (Invoke b d l y) → a.0 < b.0
  numbers_rise i j a b c d k l x y less at_i at_j =
      let first = (formed i (Invoke a c k x) at_i).0 in
      let second = (formed j (Invoke b d l y) at_j).0 in
      let below = count_below (take j rows) i (Invoke a c k x) (slice_get-take rows j i less ∙ at_i) refl in
      let front = ap call_count (take-take i j rows (omega arith)) in
      omega (arith, first, second, below, front)

  -- a call is begun once
  begun_once : (i j : ℕ) (op : OpId) (c d : ℕ) (k l : List ℕ) (x y : Action) → slice_get rows i ≡ Some (Invoke op c k x)
      → slice_get rows j ≡ Some (Invoke op d l y) → i ≡ j
  begun_once i j op c d k l x y at_i at_j =
      elim (cases_lt i j) [
        | inl h ↦ absurd (omega (arith, numbers_rise i j op op c d k l x y h at_i at_j))
        | inr h ↦ elim (cases_lt j i) [
          | inl g ↦ absurd (omega (arith, numbers_rise j i op op d c l k y x g at_j at_i))
          | inr g ↦ omega arith
        ]
      ]

  -- a call is answered only after its invocation
  begun_before : (place : ℕ) (op : OpId) (returned : Returned) → slice_get rows place ≡ Some (Respond op returned)
      → (i c : ℕ) (k : List ℕ) (x : Action) → slice_get rows i ≡ Some (Invoke op c k x) → i < place
  begun_before place op returned at i c k x begun =
      let p = formed place (Respond op returned) at in
      let j = place_of (take place rows) (Invoke op p.0 p.2.key p.1) p.2.invoked in
      let front = in_front rows place j.0 (Invoke op p.0 p.2.key p.1) j.1 in
      let same : i ≡ j.0 = begun_once i j.0 op c p.0 k p.2.key x p.1 begun front.1 in
      omega (arith, same, front.0)

  -- two calls of one number begin at one place
  pub same_place : (k l : List ℕ) (a b : Call) → IsRecorded rows k a → IsRecorded rows l b → a.op ≡ b.op → a.invoked ≡ b.invoked
  same_place k l a b x y op =
      let there : slice_get rows b.invoked ≡ Some (Invoke a.op b.client l b.action) =
      subst (λ (o : OpId). slice_get rows b.invoked ≡ Some (Invoke o b.client l b.action)) (sym op) y.begun in
      begun_once a.invoked b.invoked a.op a.client b.client k l a.action b.action x.begun there

  pub answered_later : (key : List ℕ) (call : Call) (response : Response) → IsRecorded rows key call → call.response ≡ Some response
      → call.invoked < response.place
  answered_later key call response x e =
      begun_before response.place call.op response.returned ((x.answered response.place response.returned).0 e) call.invoked call.client
      key call.action x.begun

  -- recorded calls in the order of their places are a sequence
  pub sequence_of : (calls : List Call) → ((call : Call) → Contains calls call → (key : List ℕ) × IsRecorded rows key call)
      → ((i j : ℕ) (a b : Call) → i < j → slice_get calls i ≡ Some a → slice_get calls j ≡ Some b → a.invoked < b.invoked)
      → IsSequence calls
  sequence_of calls each ordered = record {
    numbers = λ i j a b less at_i at_j.
        let x = each a (Contains-slice_get calls i a at_i) in
        let y = each b (Contains-slice_get calls j b at_j) in
        let up = ordered i j a b less at_i at_j in
        numbers_rise a.invoked b.invoked a.op b.op a.client b.client x.0 y.0 a.action b.action up x.1.begun y.1.begun;
    places = ordered;
    responses = λ call response there answered.
        let x = each call there in
        answered_later x.0 call response x.1 answered;
  }
