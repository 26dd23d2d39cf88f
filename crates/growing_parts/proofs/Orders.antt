-- Orders of a key's calls, with and without the reads that were given up.
use Rattle.std.proofs.Common.{ℕ, ◌≡◌, ◌<◌, ◌≤◌, ◌+◌, inl, inr, List, [], ◌∷◌, Option, Some, None, Bool, true, false, nat_eq, eqb-true}
use Rattle.std.proofs.Common.{ap, sym, ◌∙◌, subst, refl, arith}
use Rattle.std.specs.List.{slice_get, Contains}
use Rattle.std.proofs.lemmas.Bool.{eqb-false}
use Rattle.std.proofs.lemmas.Option.{slice_get_within}
use Rattle.tag.specs.declared.actions.Action.{Action}
use Rattle.tag.specs.declared.actions.Action.TheVariants.{Read}
use Rattle.tag.specs.declared.numbers.OpId.{OpId}
use Rattle.tag.specs.Tags.{Tag}
use Rattle.tag.proofs.Lists.{place_of, Contains-slice_get, get_at}
use Rattle.recorder.specs.declared.row.Row.{Row}
use Rattle.recorder.specs.declared.row.Row.TheVariants.{Invoke, Note, Respond}
use Rattle.recorder.specs.declared.part.Call.{Call}
use Rattle.recorder.specs.declared.part.Response.{Response}
use Rattle.recorder.specs.Histories.{HasResponse, IsWellFormed}
use Rattle.recorder.specs.Orders.{StandsAt, NoWriteFrom, IsLastWritten, IsOrder}
use Rattle.recorder.specs.Records.{IsRecorded, IsPart}
use Rattle.recorder.proofs.Sequences.{same_call}
use Rattle.growing_parts.specs.PartsWithout.{AreReadsOf, IsPartWithout}
use Rattle.growing_parts.proofs.NextParts.{part_of_none}
use Rattle.growing_parts.proofs.Places.{kept, stood, stood_rises, stood_earlier, stood_at, stands_there}
use Rattle.growing_parts.proofs.Rows.{begun_alike}
use Rattle.growing_parts.proofs.Standing.{sequence}
use Rattle.growing_parts.proofs.Without.{first_in, others_in, in_cases}

-- ---- what is recorded is one call

same_option : {X : Type 0} (a b : Option X) → ((x : X) → a ≡ Some x → b ≡ Some x) → ((x : X) → b ≡ Some x → a ≡ Some x) → a ≡ b
same_option None None left right = refl
same_option None (Some y) left right = right y refl
same_option (Some x) b left right = sym (left x refl)

made : OpId → ℕ → Action → Option Tag → ℕ → Option Response → Call
made op client action note invoked response = record {
  op = op;
  client = client;
  action = action;
  note = note;
  invoked = invoked;
  response = response;
}

one_recorded : (rows : List Row) (key : List ℕ) (a b : Call) → IsRecorded rows key a → IsRecorded rows key b → a.invoked ≡ b.invoked
    → a ≡ b
unfolding made
one_recorded rows key a b x y place =
    let row : ◌≡◌ {A = Row} (Invoke a.op a.client key a.action) (Invoke b.op b.client key b.action) = cc (
      x.begun,
      y.begun,
      ap (slice_get
          rows) place,
    ) in
    let op : a.op ≡ b.op = cc in
    let client : a.client ≡ b.client = cc in
    let action : a.action ≡ b.action = cc in
    let note : a.note ≡ b.note = same_option a.note b.note (λ t e. (y.noted t).1 (subst (λ (o : OpId). Contains rows (Note o t)) op
    ((x.noted t).0 e))) (λ t e. (x.noted t).1 (subst (λ (o : OpId). Contains rows (Note o t)) (sym op) ((y.noted t).0 e))) in
    let response : a.response ≡ b.response = same_option a.response b.response (λ r e. (y.answered r.place r.returned).1 (subst (λ (o :
    OpId). slice_get rows r.place ≡ Some (Respond o r.returned)) op ((x.answered r.place r.returned).0 e))) (λ r e. (x.answered r.place
    r.returned).1 (subst (λ (o : OpId). slice_get rows r.place ≡ Some (Respond o r.returned)) (sym op) ((y.answered r.place
    r.returned).0 e))) in
    let same : made a.op a.client a.action a.note a.invoked a.response ≡ made b.op b.client b.action b.note b.invoked b.response = cc in
    same

-- ---- which numbers are given up

other_by : Bool → Bool → Bool
other_by true rest = false
other_by false rest = rest

stays : List ℕ → ℕ → Bool
stays [] number = true
stays (n ∷ gone) number = other_by (nat_eq n number) (stays gone number)

stays_by : (n : ℕ) (gone : List ℕ) (number : ℕ) (b : Bool) → nat_eq n number ≡ b → (stays gone number ≡ true → Contains gone number → ⊥)
    → other_by b (stays gone number) ≡ true → Contains (n ∷ gone) number → ⊥
unfolding other_by
stays_by n gone number true e rest is h = absurd (cc)
stays_by n gone number false e rest is h = elim (in_cases n gone number h) [ inl same ↦ eqb-false n number e same | inr g ↦ rest is g ]

not_gone : (gone : List ℕ) (number : ℕ) → stays gone number ≡ true → Contains gone number → ⊥
unfolding stays
not_gone [] number is h = absurd (omega (arith, h.1))
not_gone (n ∷ gone) number is h = stays_by n gone number (nat_eq n number) refl (not_gone gone number) is h

passes_by : (n : ℕ) (gone : List ℕ) (number : ℕ) (b : Bool) → nat_eq n number ≡ b → ((Contains gone number → ⊥)
    → stays gone number ≡ true) → (Contains (n ∷ gone) number → ⊥) → other_by b (stays gone number) ≡ true
unfolding other_by
passes_by n gone number true e rest out = absurd (out (subst (Contains (n ∷ gone)) (eqb-true n number e) (first_in n gone)))
passes_by n gone number false e rest out = rest (λ h. out (others_in n gone number h))

passes : (gone : List ℕ) (number : ℕ) → (Contains gone number → ⊥) → stays gone number ≡ true
unfolding stays
passes [] number out = refl
passes (n ∷ gone) number out = passes_by n gone number (nat_eq n number) refl (passes gone number) out

-- ---- the part and the whole

module _ (rows : List Row) (formed : IsWellFormed rows) (key gone : List ℕ) (whole part : List Call) (is : IsPart rows key whole) (less :
    IsPartWithout rows key gone part) where
  in_whole : (call : Call) → Contains part call → Contains whole call
  in_whole call h =
      let x = less.each call h in
      let w = is.all call.invoked call.op call.client call.action x.begun in
      subst (Contains whole) (one_recorded rows key w.0 call (is.each w.0 w.1) x w.2) w.1

  in_part : (call : Call) → Contains whole call → (Contains gone call.op.0 → ⊥) → Contains part call
  in_part call h out =
      let x = is.each call h in
      let p = less.all call.invoked call.op call.client call.action x.begun out in
      subst (Contains part) (one_recorded rows key p.0 call (less.each p.0 p.1) x p.2) p.1

  one_number : (a b : Call) → Contains whole a → Contains whole b → a.op ≡ b.op → a ≡ b
  one_number a b in_a in_b same = same_call whole (sequence rows formed key [] whole (part_of_none rows key whole is)) a b in_a in_b (ap (λ
      (o : OpId). o.0) same)

  -- ---- an order without pending reads

  module _ (pending : (op : OpId) → Contains gone op.0 → HasResponse rows op → ⊥) (order : List OpId) (o : IsOrder part order) where
    up : (i : ℕ) (call : Call) → StandsAt part order i call → StandsAt whole order i call
    up i call s = record { listed = s.listed; recorded = in_whole call s.recorded }

    down : (i : ℕ) (call : Call) → StandsAt whole order i call → StandsAt part order i call
    down i call s =
        let k = o.known i (slice_get_within order i call.op s.listed) in
        let number : k.0.op ≡ call.op = (let one = k.1.listed in let other = s.listed in cc) in
        subst (StandsAt part order i) (one_number k.0 call (in_whole k.0 k.1.recorded) s.recorded number) k.1

    none_up : (low high : ℕ) → NoWriteFrom part order low high → NoWriteFrom whole order low high
    none_up low high none k value le below w = none k value le below (w.0, down k w.0 w.1, w.2)

    last_up : (i : ℕ) (answer : Option (List ℕ)) → IsLastWritten part order i answer → IsLastWritten whole order i answer
    last_up i None none = none_up 0 i none
    last_up i (Some value) w = (w.0, w.1, (w.2.0, up w.0 w.2.0 w.2.1, w.2.2), none_up (w.0 + 1) i w.3)

    completed_stays : (call : Call) → Contains whole call → (response : Response) → call.response ≡ Some response
        → Contains gone call.op.0 → ⊥
    completed_stays call h response e g =
        let at = ((is.each call h).answered response.place response.returned).0 e in
        pending call.op g (response.returned, Contains-slice_get rows response.place _ at)

    pub order_of_whole : IsOrder whole order
    order_of_whole = record {
      known = λ i below. (let k = o.known i below in (k.0, up i k.0 k.1));
      once = o.once;
      complete = λ call h done.
          let s = o.complete call (in_part call h (completed_stays call h done.0 done.1)) done in
          (s.0, up s.0 call s.1);
      writes = λ i call s waits. o.writes i call (down i call s) waits;
      legal = λ i call response s read responds.
          let a = o.legal i call response (down i call s) read responds in
          (a.0, a.1, last_up i a.0 a.2);
      precedence = λ i j a b before s t p. o.precedence i j a b before (down i a s) (down j b t) p;
    }

  -- ---- an order, without the reads that were given up

  module _ (are : AreReadsOf rows gone) (order : List OpId) (o : IsOrder whole order) where
    pub op_stays : OpId → Bool
    op_stays op = stays gone op.0

    abbrev pub order_less : List OpId
    order_less = kept op_stays order

    abbrev stood_in : ℕ → ℕ
    stood_in = stood op_stays order

    gone_reads : (call : Call) → Contains whole call → Contains gone call.op.0 → call.action ≡ Read
    gone_reads call h g =
        let r = are call.op g in
        let k = place_of rows (Invoke call.op r.0 r.1 Read) r.2 in
        let row = begun_alike rows formed call.invoked k.0 call.op call.client r.0 key r.1 call.action Read (is.each call h).begun k.1 in
        cc

    -- what stands in the shorter one stood in the order
    wide : (i : ℕ) (call : Call) → StandsAt part order_less i call → StandsAt whole order (stood_in i) call
    wide i call s = record { listed = (stood_at op_stays order i call.op s.listed).0; recorded = in_whole call s.recorded }

    -- and what isn't given up stands in it
    record StandsStill (k : ℕ) (call : Call) : Type 0 where
      place : ℕ
      was : stood_in place ≡ k
      stands : StandsAt part order_less place call

    narrow : (k : ℕ) (call : Call) → StandsAt whole order k call → (Contains gone call.op.0 → ⊥) → StandsStill k call
    unfolding op_stays
    narrow k call s out =
        let n = stands_there op_stays order k call.op s.listed (passes gone call.op.0 out) in
        record { place = n.place; was = n.was; stands = record { listed = n.at; recorded = in_part call s.recorded out } }

    none_less : (low high l h : ℕ) → ((k : ℕ) → l ≤ k → k < h → (low ≤ stood_in k) × (stood_in k < high)) → NoWriteFrom whole order low high
        → NoWriteFrom part order_less l h
    none_less low high l h within none k value le below w =
        let at = within k le below in
        none (stood_in k) value at.0 at.1 (w.0, wide k w.0 w.1, w.2)

    last_less : (i : ℕ) (answer : Option (List ℕ)) → IsLastWritten whole order (stood_in i) answer → IsLastWritten part order_less i answer
    last_less i None none = none_less 0 (stood_in i) 0 i (λ k le below. (omega arith, stood_rises op_stays order k i below)) none
    last_less i (Some value) w =
        let write = w.2 in
        let out : Contains gone write.0.op.0 → ⊥ = λ g.
        (let reads = gone_reads write.0 write.1.recorded g in let wrote = write.2 in absurd (cc)) in
        let n = narrow w.0 write.0 write.1 out in
        let before : stood_in n.place < stood_in i = (let was = n.was in let less = w.1 in omega arith) in (
          n.place,
          stood_earlier op_stays order n.place i before,
          (write.0, n.stands, write.2),
          none_less (w.0 + 1) (stood_in i) (n.place + 1) i (λ k le below. (
            (let more = stood_rises op_stays order n.place k (omega arith) in let was = n.was in omega arith),
            stood_rises op_stays order k i below,
          )) w.3,
        )

    pub order_of_part : IsOrder part order_less
    unfolding op_stays
    order_of_part = record {
      known = λ i below.
          let x = get_at order_less i below in
          let s = stood_at op_stays order i x.0 x.1 in
          let k = o.known (stood_in i) (slice_get_within order (stood_in i) x.0 s.0) in
          let number : x.0 ≡ k.0.op = (let one = s.0 in let other = k.1.listed in cc) in
          let out : Contains gone k.0.op.0 → ⊥ = λ g. not_gone gone x.0.0 s.1 (subst (λ (n : OpId). Contains gone n.0) (sym number) g) in
          (k.0, record { listed = x.1 ∙ ap Some number; recorded = in_part k.0 k.1.recorded out });
      once = λ i j before below same.
          let y = get_at order_less j below in
          let at_i = stood_at op_stays order i y.0 (same ∙ y.1) in
          let at_j = stood_at op_stays order j y.0 y.1 in
          o.once (stood_in i) (stood_in j) (stood_rises op_stays order i j before) (slice_get_within order (stood_in j) y.0 at_j.0) (at_i.0
          ∙ sym at_j.0);
      complete = λ call h done.
          let s = o.complete call (in_whole call h) done in
          let n = narrow s.0 call s.1 (less.none call h) in
          (n.place, n.stands);
      writes = λ i call s waits. o.writes (stood_in i) call (wide i call s) waits;
      legal = λ i call response s read responds.
          let a = o.legal (stood_in i) call response (wide i call s) read responds in
          (a.0, a.1, last_less i a.0 a.2);
      precedence = λ i j a b before s t p. o.precedence (stood_in i) (stood_in j) a b (stood_rises op_stays order i j before) (wide i a s)
          (wide j b t) p;
    }
