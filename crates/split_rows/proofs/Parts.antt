-- The part of a key in its piece.
use Rattle.std.proofs.Common.{ℕ, zero, suc, ◌≡◌, ◌<◌, inl, inr, List, Option, Some, None, Bool, true, false, nat_eq, map, length}
use Rattle.std.proofs.Common.{sym, ◌∙◌, ap, subst, refl, arith, eqb-true}
use Rattle.std.specs.List.{slice_get, Contains}
use Rattle.std.proofs.lemmas.Bool.{cases_lt, eqb-false}
use Rattle.std.proofs.lemmas.List.{length-map}
use Rattle.std.proofs.lemmas.Option.{same_Some, none-some, slice_get_within}
use Rattle.tag.specs.declared.actions.Returned.{Returned}
use Rattle.tag.specs.declared.numbers.OpId.{OpId}
use Rattle.tag.specs.Tags.{Tag}
use Rattle.tag.proofs.Below.{below_or_last}
use Rattle.tag.proofs.Lists.{place_of, Contains-slice_get, slice_get-map_at, slice_get-map_back}
use Rattle.recorder.specs.declared.part.Call.{Call}
use Rattle.recorder.specs.declared.part.Response.{Response}
use Rattle.recorder.specs.declared.row.Row.{Row}
use Rattle.recorder.specs.declared.row.Row.TheVariants.{Invoke, Note, Respond}
use Rattle.recorder.specs.Histories.{IsWellFormed}
use Rattle.recorder.specs.Parts.{Precedes}
use Rattle.recorder.specs.Records.{IsPart, IsRecorded}
use Rattle.split_rows.specs.MovedParts.{IsMovedCall, IsMovedPart, answer_in}
use Rattle.split_rows.specs.Pieces.{IsCallOf, IsPiece}
use Rattle.split_rows.proofs.Rows.{BeganAt, began_once}
use Rattle.split_rows.proofs.PieceRows.{StandsIn, invoke_out, note_out, respond_out, lower, one_number, row_in, same_row}

-- ---- a part has one call of a number

one_place : (rows : List Row) → IsWellFormed rows → (key : List ℕ) (part : List Call) → IsPart rows key part → (i j : ℕ) (a b : Call)
    → slice_get part i ≡ Some a → slice_get part j ≡ Some b → a.op ≡ b.op → i ≡ j
one_place rows formed key part p i j a b at_a at_b same =
    let r = p.each a (Contains-slice_get part i a at_a) in
    let q = p.each b (Contains-slice_get part j b at_b) in
    let x : BeganAt rows a.op a.invoked = record { client = a.client; key = key; action = a.action; stands = r.begun } in
    let y : BeganAt rows b.op b.invoked = record { client = b.client; key = key; action = b.action; stands = q.begun } in
    let place : a.invoked ≡ b.invoked = began_once rows formed a.invoked b.invoked a.op x (subst (λ (o : OpId). BeganAt rows o b.invoked)
    (sym same) y) in
    elim (cases_lt i j) [
      | inl h ↦ absurd (omega (arith, place, p.ordered i j a b h at_a at_b))
      | inr h ↦ elim (cases_lt j i) [ inl g ↦ absurd (omega (arith, place, p.ordered j i b a g at_b at_a)) | inr g ↦ omega (arith, h, g) ]
    ]

-- ---- which of the first places a place is

found : Bool → ℕ → ℕ → ℕ
found true k later = k
found false k later = later

find : (ℕ → ℕ) → ℕ → ℕ → ℕ
unfolding found
find place at zero = zero
find place at (suc k) = found (nat_eq (place k) at) k (find place at k)

find_by : (place : ℕ → ℕ) (at n k : ℕ) (b : Bool) → nat_eq (place n) at ≡ b → k < suc n → place k ≡ at
    → (place n ≡ at → k ≡ n) → (k < n → find place at n ≡ k) → found b n (find place at n) ≡ k
unfolding found
find_by place at n k true e less is same rest = sym (same (eqb-true (place n) at e))
find_by place at n k false e less is same rest =
    elim (below_or_last k n less) [
      | inl h ↦ rest h
      | inr h ↦ absurd (eqb-false (place n) at e (sym (ap place h) ∙ is))
    ]

find_is : (place : ℕ → ℕ) (at n k : ℕ) → ((i j : ℕ) → i < n → j < n → place i ≡ place j → i ≡ j) → k < n → place k ≡ at
    → find place at n ≡ k
unfolding find found
find_is place at zero k once less is = absurd (omega (arith, less))
find_is place at (suc n) k once less is = find_by place at n k (nat_eq (place n) at) refl less is
    (λ here. once k n less (omega arith) (is ∙ sym here))
    (λ h. find_is place at n k (λ i j a b. once i j (omega (arith, a)) (omega (arith, b))) h is)

-- ---- the calls, moved

moved_response : (ℕ → ℕ) → Option Response → Option Response
moved_response back None = None
moved_response back (Some response) = Some (record { place = back response.place; returned = response.returned })

moved_call : (OpId → OpId) → (ℕ → ℕ) → Call → Call
moved_call number back call = record {
  op = number call.op;
  client = call.client;
  action = call.action;
  note = call.note;
  invoked = back call.invoked;
  response = moved_response back call.response;
}

-- what a moved response comes from
response_back : (back : ℕ → ℕ) (response : Option Response) (r : Response) → moved_response back response ≡ Some r
    → (s : Response) × (response ≡ Some s) × (r.place ≡ back s.place) × (r.returned ≡ s.returned)
unfolding moved_response
response_back back None r e = absurd (none-some r e)
response_back back (Some s) r e =
    let same = same_Some (record { place = back s.place; returned = s.returned }) r e in
    (s, refl, sym (ap (λ (x : Response). x.place) same), sym (ap (λ (x : Response). x.returned) same))

same_answer : (back : ℕ → ℕ) (response : Option Response) → answer_in (moved_response back response) ≡ answer_in response
unfolding moved_response
same_answer back None = refl
same_answer back (Some s) = refl

response_is : (back : ℕ → ℕ) (response : Option Response) (s : Response) → response ≡ Some s
    → moved_response back response ≡ Some (record { place = back s.place; returned = s.returned })
unfolding moved_response
response_is back response s e = ap (moved_response back) e

module _ (rows : List Row) (formed : IsWellFormed rows) (mine : List ℕ → Type 0) (number : OpId → OpId) (piece : List Row)
    (is : IsPiece rows mine number piece) where
  -- where a place of the history is in the piece
  back : ℕ → ℕ
  back at = find is.place at (length piece)

  back_is : (k at : ℕ) → k < length piece → is.place k ≡ at → back at ≡ k
  unfolding back
  back_is k at within place =
      find_is is.place at (length piece) k (λ i j a b e. same_row rows formed mine number piece is i j a b e) within place

  module _ (key : List ℕ) (own : mine key) (part : List Call) (p : IsPart rows key part) where
    pub moved : List Call
    moved = map (moved_call number back) part

    -- a call of the part is one of the piece's
    call_of : (call : Call) → IsRecorded rows key call → IsCallOf rows mine call.op
    call_of call r = (
      key,
      own,
      (call.client, call.action, Contains-slice_get rows call.invoked (Invoke call.op call.client key call.action) r.begun),
    )

    -- where it begins in the piece
    begins_in : (call : Call) → IsRecorded rows key call
        → StandsIn rows formed mine number piece is call.invoked (Invoke call.op call.client key call.action)
    begins_in call r =
        row_in rows formed mine number piece is call.invoked (Invoke call.op call.client key call.action) r.begun (call_of call r)

    -- and where it is answered
    answer_row : (call : Call) → IsRecorded rows key call → (s : Response) → call.response ≡ Some s
        → slice_get rows s.place ≡ Some (Respond call.op s.returned)
    answer_row call r s e = (r.answered s.place s.returned).0 e

    answered_in : (call : Call) → IsRecorded rows key call → (s : Response) → call.response ≡ Some s
        → StandsIn rows formed mine number piece is s.place (Respond call.op s.returned)
    answered_in call r s e =
        row_in rows formed mine number piece is s.place (Respond call.op s.returned) (answer_row call r s e) (call_of call r)

    noted_forth : (call : Call) (r : IsRecorded rows key call) (tag : Tag) → call.note ≡ Some tag → Contains piece (Note (number call.op) tag)
    noted_forth call r tag e =
        let k = place_of rows (Note call.op tag) ((r.noted tag).0 e) in
        let s = row_in rows formed mine number piece is k.0 (Note call.op tag) k.1 (call_of call r) in
        Contains-slice_get piece s.k (Note (number call.op) tag) s.stands

    noted_back : (call : Call) (r : IsRecorded rows key call) (tag : Tag) → Contains piece (Note (number call.op) tag) → call.note ≡ Some tag
    noted_back call r tag h =
        let k = place_of piece (Note (number call.op) tag) h in
        let s = note_out rows formed mine number piece is k.0 (number call.op) tag k.1 in
        let same : s.op ≡ call.op = one_number rows formed mine number piece is s.op call.op s.of (call_of call r) (sym s.new_is) in
        (r.noted tag).1 (subst (λ (o : OpId). Contains rows (Note o tag)) same (Contains-slice_get rows (is.place k.0) (Note s.op tag)
        s.stands))

    answered_forth : (call : Call) (r : IsRecorded rows key call) (place : ℕ) (returned : Returned)
        → moved_response back call.response ≡ Some (record { place = place; returned = returned })
        → slice_get piece place ≡ Some (Respond (number call.op) returned)
    answered_forth call r place returned e =
        let b = response_back back call.response (record { place = place; returned = returned }) e in
        let s = answered_in call r b.0 b.1 in
        let at : place ≡ s.k = b.2 ∙ back_is s.k b.0.place s.within s.place in
        ap (slice_get piece) at ∙ (s.stands ∙ ap (λ (x : Returned). Some (Respond (number call.op) x)) (sym b.3))

    answered_back : (call : Call) (r : IsRecorded rows key call) (place : ℕ) (returned : Returned)
        → slice_get piece place ≡ Some (Respond (number call.op) returned)
        → moved_response back call.response ≡ Some (record { place = place; returned = returned })
    answered_back call r place returned at =
        let s = respond_out rows formed mine number piece is place (number call.op) returned at in
        let same : s.op ≡ call.op = one_number rows formed mine number piece is s.op call.op s.of (call_of call r) (sym s.new_is) in
        let there = (r.answered (is.place place) returned).1
        (subst (λ (o : OpId). slice_get rows (is.place place) ≡ Some (Respond o returned)) same s.stands) in
        let here = back_is place (is.place place) (slice_get_within piece place (Respond (number call.op) returned) at) refl in
        response_is back call.response (record { place = is.place place; returned = returned }) there
        ∙ ap (λ (n : ℕ). Some (record { place = n; returned = returned })) here

    recorded : (call : Call) → IsRecorded rows key call → IsRecorded piece key (moved_call number back call)
    unfolding moved_call
    recorded call r = record {
      begun = (let s = begins_in call r in ap (slice_get piece) (back_is s.k call.invoked s.within s.place) ∙ s.stands);
      noted = λ tag. (noted_forth call r tag, noted_back call r tag);
      answered = λ place returned. (answered_forth call r place returned, answered_back call r place returned);
    }

    -- a moved call comes from one of the part
    was : (call : Call) → Contains moved call → (a : Call) × Contains part a × (moved_call number back a ≡ call)
    unfolding moved
    was call h =
        let k = place_of (map (moved_call number back) part) call h in
        let m = slice_get-map_back (moved_call number back) part k.0 call k.1 in
        (m.0, Contains-slice_get part k.0 m.0 m.1, m.2)

    -- the places keep their order
    invoked_up : (a b : Call) → IsRecorded rows key a → IsRecorded rows key b → a.invoked < b.invoked → back a.invoked < back b.invoked
    invoked_up a b r q less =
        let x = begins_in a r in
        let y = begins_in b q in
        let placed : is.place x.k < is.place y.k = omega (arith, less, x.place, y.place) in
        omega (
          arith,
          lower rows formed mine number piece is x.k y.k x.within placed,
          back_is x.k a.invoked x.within x.place,
          back_is y.k
              b.invoked y.within y.place,
        )

    pub moved_part : IsPart piece key moved
    unfolding moved moved_call
    moved_part = record {
      each = λ call h. let w = was call h in subst (IsRecorded piece key) w.2 (recorded w.0 (p.each w.0 w.1));
      all = λ place op client action at.
          let s = invoke_out rows formed mine number piece is place op client key action at in
          let c = p.all (is.place place) s.op client action s.stands in
          let i = place_of part c.0 c.1 in
          let within = slice_get_within piece place (Invoke op client key action) at in (
            moved_call number back c.0,
            Contains-slice_get (map (moved_call number back) part) i.0 (moved_call number back c.0)
                (slice_get-map_at (moved_call number back) part i.0 c.0 i.1),
            back_is place c.0.invoked within (sym c.2),
          );
      ordered = λ i j a b less at_i at_j.
          let m = slice_get-map_back (moved_call number back) part i a at_i in
          let n = slice_get-map_back (moved_call number back) part j b at_j in
          let up = invoked_up m.0 n.0 (p.each m.0 (Contains-slice_get part i m.0 m.1)) (p.each n.0 (Contains-slice_get part j n.0 n.1))
          (p.ordered i j m.0 n.0 less m.1 n.1) in
          let first = ap (λ (c : Call). c.invoked) m.2 in
          let second = ap (λ (c : Call). c.invoked) n.2 in
          omega (arith, up, first, second);
    }

    -- precedence, there and back
    precedes_forth : (a b : Call) → IsRecorded rows key a → IsRecorded rows key b → Precedes a b
        → Precedes (moved_call number back a) (moved_call number back b)
    unfolding moved_call
    precedes_forth a b r q before =
        let x = answered_in a r before.0 before.1 in
        let y = begins_in b q in
        let placed : is.place x.k < is.place y.k = omega (arith, before.2, x.place, y.place) in (
          record { place = back before.0.place; returned = before.0.returned },
          response_is back a.response before.0 before.1,
          omega (
            arith,
            lower rows formed mine number piece is x.k y.k x.within placed,
            back_is x.k before.0.place x.within x.place,
            back_is
                y.k b.invoked y.within y.place,
          ),
        )

    precedes_back : (a b : Call) → IsRecorded rows key a → IsRecorded rows key b
        → Precedes (moved_call number back a) (moved_call number back b) → Precedes a b
    unfolding moved_call
    precedes_back a b r q before =
        let s = response_back back a.response before.0 before.1 in
        let x = answered_in a r s.0 s.1 in
        let y = begins_in b q in
        let at_x = back_is x.k s.0.place x.within x.place in
        let at_y = back_is y.k b.invoked y.within y.place in
        let up : x.k < y.k = omega (arith, before.2, s.2, at_x, at_y) in
        (s.0, s.1, omega (arith, is.rises x.k y.k up y.within, x.place, y.place))

    at_moved : (i : ℕ) (a b : Call) → slice_get part i ≡ Some a → slice_get moved i ≡ Some b → moved_call number back a ≡ b
    unfolding moved
    at_moved i a b at_a at_b =
        same_Some (moved_call number back a) b (sym (slice_get-map_at (moved_call number back) part i a at_a) ∙ at_b)

    of_part : (i : ℕ) (a : Call) → slice_get part i ≡ Some a → IsRecorded rows key a
    of_part i a at = p.each a (Contains-slice_get part i a at)

    is_moved_call : (a : Call) → IsMovedCall number a (moved_call number back a)
    unfolding moved_call
    is_moved_call a = record { op = refl; client = refl; action = refl; note = refl; answer = same_answer back a.response }

    same_place : (i j : ℕ) (a b : Call) → slice_get part i ≡ Some a → slice_get part j ≡ Some b → number a.op ≡ number b.op → i ≡ j
    same_place i j a b at_a at_b e =
        let same : a.op ≡ b.op = one_number rows formed mine number piece is a.op b.op (call_of a (of_part i a at_a)) (call_of b (of_part j b
        at_b)) e in
        one_place rows formed key part p i j a b at_a at_b same

    pub is_moved_part : IsMovedPart number part moved
    unfolding moved
    is_moved_part = record {
      count = length-map part (moved_call number back);
      each = λ i a b at_a at_b. subst (IsMovedCall number a) (at_moved i a b at_a at_b) (is_moved_call a);
      apart = same_place;
      precedence = λ i j a b c d at_a at_b at_c at_d.
          let x = at_moved i a c at_a at_c in
          let y = at_moved j b d at_b at_d in (
            λ before. subst (λ (z : Call). Precedes z d) x (subst (λ (z : Call). Precedes (moved_call number back a) z) y
                (precedes_forth a b (of_part i a at_a) (of_part j b at_b) before)),
            λ before. precedes_back a b (of_part i a at_a) (of_part j b at_b) (subst (λ (z : Call). Precedes z (moved_call number back b))
                (sym x) (subst (λ (z : Call). Precedes c z) (sym y) before)),
          );
    }
