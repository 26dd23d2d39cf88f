-- The part of a key by rows with one more.
use Rattle.std.proofs.Common.{ℕ, suc, ◌≡◌, inl, inr, List, [], ◌∷◌, ◌++◌, Some, None, map, length}
use Rattle.std.proofs.Common.{ap, ap₂, sym, ◌∙◌, subst, refl, arith}
use Rattle.std.specs.List.{slice_get, Contains}
use Rattle.std.proofs.lemmas.List.Elements.{Contains-append_left, Contains-push, Contains-push_cases}
use Rattle.std.proofs.lemmas.Option.{slice_get_within}
use Rattle.tag.specs.declared.actions.Action.{Action}
use Rattle.tag.specs.declared.numbers.OpId.{OpId}
use Rattle.tag.proofs.Lists.{place_of, Contains-slice_get, push_cases, slice_get-push_last, slice_get-map_back}
use Rattle.tag.proofs.Lists.{slice_get-map_at}
use Rattle.recorder.specs.declared.row.Row.{Row}
use Rattle.recorder.specs.declared.row.Row.TheVariants.{Invoke, Note, Respond}
use Rattle.recorder.specs.declared.part.Call.{Call}
use Rattle.recorder.specs.Histories.{IsWellFormed, MayFollow}
use Rattle.recorder.specs.Records.{IsRecorded, BeginsAt, IsPart}
use Rattle.growing_parts.specs.PartsWithout.{AreReadsOf, IsPartWithout, IsOutside, IsRowOutside}
use Rattle.growing_parts.proofs.NextCall.{next_call, one_call, next_recorded, begin_leaves, note_of_another, answer_of_another}
use Rattle.growing_parts.proofs.NextCall.{notes_same, answers_same}
use Rattle.growing_parts.proofs.Rows.{begun_alike, number_below, no_note, no_response}

-- ---- none is given up, no call is begun

pub part_of_none : (rows : List Row) (key : List ℕ) (part : List Call) → IsPart rows key part → IsPartWithout rows key [] part
part_of_none rows key part is = record {
  each = is.each;
  none = λ call there h. absurd (omega (arith, h.1));
  all = λ place op client action at out. is.all place op client action at;
  ordered = is.ordered;
}

pub none_of_part : (rows : List Row) (key : List ℕ) (part : List Call) → IsPartWithout rows key [] part → IsPart rows key part
none_of_part rows key part is = record {
  each = is.each;
  all = λ place op client action at. is.all place op client action at (λ h. absurd (omega (arith, h.1)));
  ordered = is.ordered;
}

pub empty_part : (rows : List Row) (key gone : List ℕ) → ((place : ℕ) → BeginsAt rows key place → ⊥) → IsPartWithout rows key gone []
empty_part rows key gone unseen = record {
  each = λ call h. absurd (omega (arith, h.1));
  none = λ call h at. absurd (omega (arith, h.1));
  all = λ place op client action at out. absurd (unseen place (op, client, action, at));
  ordered = λ i j a b less at_i at_j. absurd (omega (arith, slice_get_within [] i a at_i));
}

-- numbers of reads stay numbers of reads
pub reads_next : (rows : List Row) (row : Row) (gone : List ℕ) → AreReadsOf rows gone → AreReadsOf (rows ++ row ∷ []) gone
reads_next rows row gone are op h =
    let r = are op h in
    (r.0, r.1, Contains-append_left rows (row ∷ []) _ r.2)

-- ---- a row that begins no call on the key

module _ (rows : List Row) (row : Row) (may : MayFollow rows row) (key gone : List ℕ) (before : List Call) (is : IsPartWithout rows key gone
    before) (none_begun : (op : OpId) (client : ℕ) (action : Action) → row ≡ Invoke op client key action → ⊥) where
  abbrev pub changed : List Call
  changed = map (next_call row (length rows)) before

  -- each call of it is one of the part, as the row leaves it
  pub record Was (call : Call) : Type 0 where
    pub was : Call
    pub there : Contains before was
    pub now : next_call row (length rows) was ≡ call

  pub was_of : (call : Call) → Contains changed call → Was call
  was_of call h =
      let k = place_of changed call h in
      let m = slice_get-map_back (next_call row (length rows)) before k.0 call k.1 in
      record { was = m.0; there = Contains-slice_get before k.0 m.0 m.1; now = m.2 }

  pub now_there : (call : Call) → Contains before call → Contains changed (next_call row (length rows) call)
  now_there call h =
      let k = place_of before call h in
      Contains-slice_get changed k.0 (next_call row (length rows) call) (slice_get-map_at (next_call row (length rows)) before k.0 call
      k.1)

  same_place : (a b : Call) → next_call row (length rows) a ≡ b → b.invoked ≡ a.invoked
  same_place a b e = sym (ap (λ (c : Call). c.invoked) e) ∙ (one_call row (length rows) a).invoked

  pub changed_part : IsPartWithout (rows ++ row ∷ []) key gone changed
  changed_part = record {
    each = λ call h.
        let w = was_of call h in
        subst (IsRecorded (rows ++ row ∷ []) key) w.now (next_recorded rows key w.was (is.each w.was w.there) row may);
    none = λ call h at.
        let w = was_of call h in
        let number : call.op ≡ w.was.op = sym (ap (λ (c : Call). c.op) w.now) ∙ (one_call row (length rows) w.was).number in
        is.none w.was w.there (subst (λ (o : OpId). Contains gone o.0) number at);
    all = λ place op client action at out. elim (push_cases rows row place (Invoke op client key action) at) [
      | inl w ↦
          let c = is.all place op client action w out in
          (next_call row (length rows) c.0, now_there c.0 c.1, (one_call row (length rows) c.0).invoked ∙ c.2)
      | inr w ↦ absurd (none_begun op client action w.1)
    ];
    ordered = λ i j a b less at_i at_j.
        let m = slice_get-map_back (next_call row (length rows)) before i a at_i in
        let n = slice_get-map_back (next_call row (length rows)) before j b at_j in
        let up = is.ordered i j m.0 n.0 less m.1 n.1 in
        let first = same_place m.0 a m.2 in
        let second = same_place n.0 b n.2 in
        omega arith;
  }

-- ---- a row outside

map_same : (f : Call → Call) (xs : List Call) → ((k : ℕ) (x : Call) → slice_get xs k ≡ Some x → f x ≡ x) → map f xs ≡ xs
map_same f [] same = refl
map_same f (x ∷ xs) same = ap₂ (λ (y : Call) (ys : List Call). y ∷ ys) (same 0 x refl) (map_same f xs (λ k y at. same (suc k) y at))

module _ (rows : List Row) (formed : IsWellFormed rows) (key gone : List ℕ) (part : List Call) (is : IsPartWithout rows key gone part) where
  -- a call outside isn't one of the part
  pub outside : (op : OpId) → IsOutside rows key gone op → (call : Call) → Contains part call → call.op ≡ op → ⊥
  outside op (inl h) call there same = is.none call there (subst (λ (o : OpId). Contains gone o.0) (sym same) h)
  outside op (inr o) call there same =
      let x = is.each call there in
      let k = place_of rows (Invoke op o.0 o.1 o.2) o.4 in
      let here : slice_get rows call.invoked ≡ Some (Invoke op call.client key call.action) = subst (λ (n : OpId). slice_get rows
      call.invoked ≡ Some (Invoke n call.client key call.action)) same x.begun in
      let one = begun_alike rows formed k.0 call.invoked op o.0 call.client o.1 key o.2 call.action k.1 here in
      let keys : o.1 ≡ key = cc in
      o.3 keys

  -- so the row leaves its calls
  leaves : (row : Row) → IsRowOutside rows key gone row → (call : Call) → Contains part call → next_call row (length rows) call ≡ call
  leaves (Invoke op client other action) out call there = begin_leaves op client other action (length rows) call
  leaves (Note op tag) out call there = note_of_another op tag (length rows) call (outside op out call there)
  leaves (Respond op returned) out call there = answer_of_another op returned (length rows) call (outside op out call there)

  begins_none : (row : Row) → IsRowOutside rows key gone row → (op : OpId) (client : ℕ) (action : Action)
      → row ≡ Invoke op client key action → ⊥
  begins_none (Invoke o c other a) out op client action e = out (cc)
  begins_none (Note o tag) out op client action e = absurd (cc)
  begins_none (Respond o returned) out op client action e = absurd (cc)

  pub stays : (row : Row) → MayFollow rows row → IsRowOutside rows key gone row → IsPartWithout (rows ++ row ∷ []) key gone part
  stays row may out = subst (IsPartWithout (rows ++ row ∷ []) key gone) (map_same (next_call row (length rows)) part (λ k call at. leaves
      row out call (Contains-slice_get part k call at))) (changed_part rows row may key gone part is (begins_none row out))

-- ---- a row that begins a call on the key

module _ (rows : List Row) (formed : IsWellFormed rows) (key gone : List ℕ) (before : List Call) (is : IsPartWithout rows key gone before)
    (are : AreReadsOf rows gone) (op : OpId) (client : ℕ) (action : Action) (may : MayFollow rows (Invoke op client key action)) where
  abbrev pub begun_call : Call
  begun_call = record {
    op = op;
    client = client;
    action = action;
    note = None;
    invoked = length rows;
    response = None;
  }

  abbrev next : Row
  next = Invoke op client key action

  begun_recorded : IsRecorded (rows ++ Invoke op client key action ∷ []) key begun_call
  begun_recorded = record {
    begun = slice_get-push_last rows next;
    noted = λ tag. (
      λ e. absurd (cc),
      λ h. absurd (no_note rows formed op may.0 (tag, (notes_same rows next op (λ t n. cc) tag).1 h)),
    );
    answered = λ place returned. (
      λ e. absurd (cc),
      λ at. absurd (no_response rows formed op may.0 (
        returned,
        Contains-slice_get rows place _ ((answers_same rows next op (λ r n. cc) place returned).1 at),
      )),
    );
  }

  old_recorded : (call : Call) → Contains before call → IsRecorded (rows ++ Invoke op client key action ∷ []) key call
  old_recorded call there = subst (IsRecorded (rows ++ next ∷ []) key) (begin_leaves op client key action (length rows) call)
      (next_recorded rows key call (is.each call there) next may)

  new_kept : Contains gone op.0 → ⊥
  new_kept h =
      let r = are op h in
      let below = number_below rows formed op r.0 r.1 _ r.2 in
      let fresh = may.0 in
      omega arith

  pub begun_part : IsPartWithout (rows ++ Invoke op client key action ∷ []) key gone (before ++ begun_call ∷ [])
  begun_part = record {
    each = λ call h. elim (Contains-push_cases before begun_call call h) [
      | inl w ↦ old_recorded call w
      | inr w ↦ subst (IsRecorded (rows ++ next ∷ []) key) w begun_recorded
    ];
    none = λ call h at. elim (Contains-push_cases before begun_call call h) [
      | inl w ↦ is.none call w at
      | inr w ↦ new_kept (subst (λ (c : Call). Contains gone c.op.0) (sym w) at)
    ];
    all = λ place o c a at out. elim (push_cases rows next place (Invoke o c key a) at) [
      | inl w ↦
          let d = is.all place o c a w out in
          (d.0, Contains-append_left before (begun_call ∷ []) d.0 d.1, d.2)
      | inr w ↦ (begun_call, Contains-push before begun_call, sym w.0)
    ];
    ordered = λ i j a b less at_i at_j. elim (push_cases before begun_call j b at_j) [
      | inl old ↦ elim (push_cases before begun_call i a at_i) [
        | inl w ↦ is.ordered i j a b less w old
        | inr w ↦ absurd (omega (arith, w.0, slice_get_within before j b old))
      ]
      | inr new ↦ elim (push_cases before begun_call i a at_i) [
        | inl w ↦
            let x = (is.each a (Contains-slice_get before i a w)).begun in
            let low = slice_get_within rows a.invoked _ x in
            let at = ap (λ (c : Call). c.invoked) new.1 in
            omega arith
        | inr w ↦ absurd (omega (arith, w.0, new.0))
      ]
    ];
  }
