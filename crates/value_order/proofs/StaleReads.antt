-- Stale reads by the write of their value that ends last, and by the last write that ended before them.
use Rattle.std.proofs.Common.{ℕ, ◌≡◌, ◌<◌, ◌≤◌, ◌+◌, inl, inr, List, Option, Some, None, length, sym, ◌∙◌, ap, subst, refl, arith}
use Rattle.std.specs.List.{slice_get}
use Rattle.std.proofs.lemmas.Bool.{cases_lt}
use Rattle.std.proofs.lemmas.Option.{slice_get_within}
use Rattle.tag.proofs.Lists.{place_of, Contains-slice_get, get_at}
use Rattle.recorder.specs.declared.part.Call.{Call}
use Rattle.recorder.specs.declared.part.Response.{Response}
use Rattle.recorder.specs.Parts.{IsSequence, Precedes}
use Rattle.recorder.specs.Sound.{IsWrite}
use Rattle.tag.specs.declared.actions.Action.TheVariants.{Write}
use Rattle.value_order.specs.declared.classes.Class.{Class}
use Rattle.value_order.specs.declared.classes.Class.TheVariants as class
use Rattle.value_order.specs.Classes.{IsFirstWrite, AreClasses, IsWriteFrom}
use Rattle.value_order.specs.Ended.{WriteEnds, IsLatestBefore, IsSlowest, PrecedesAt, BeginsDuring}
use Rattle.value_order.specs.Faults.{IsBetween, IsStaleValue}
use Rattle.value_order.specs.Stales.{IsOverwrittenBy}
use Rattle.value_order.specs.Writers.{AnswersValue, IsWriter}
use Rattle.value_order.proofs.CallKinds.{one_place, one_value, not_answered, not_both, call_at, nothing_no_value, written_not_unwritten}
use Rattle.value_order.proofs.ReadSources.{rise_to, class_of_write, written_by_class}

-- a write between a read and a writer of it began before the read: so did the writer
pub writer_before : (part : List Call) → IsSequence part → (i j : ℕ) (read write between : Call) → slice_get part i ≡ Some read → slice_get part j ≡ Some write → IsBetween part write between read → j < i
writer_before part sequence i j read write between at_i at_j b =
    let end_w = sequence.responses write b.after.0 (Contains-slice_get part j write at_j) b.after.1 in
    let end_b = sequence.responses between b.before.0 b.recorded b.before.1 in
    elim (cases_lt j i) [
      | inl h ↦ h
      | inr h ↦ (let up = rise_to part sequence i j read write h at_i at_j in absurd (omega (arith, b.after.2, b.before.2)))
    ]

-- the read is overwritten by a write which every writer of it precedes
pub overwritten_by : (part : List Call) (read latest : Call) (k : ℕ) → slice_get part k ≡ Some latest → IsWrite latest → Precedes latest read → (writer : Call) → IsWriter part writer read → ((write : Call) → IsWriter part write read → Precedes write latest) → IsOverwrittenBy part read k
overwritten_by part read latest k at write before writer has each = record {
  writer = writer;
  has = has;
  between = latest;
  at = at;
  each = λ other w. record { recorded = Contains-slice_get part k latest at; writes = write; after = each other w; before = before };
}

-- it is stale
pub stale_from : (part : List Call) (read : Call) (k : ℕ) → IsOverwrittenBy part read k → IsStaleValue part read
stale_from part read k o = record { writer = o.writer; has = o.has; overwritten = λ write w. (o.between, o.each write w) }

-- a read at index i of the value whose first write is `first`
module _ (part : List Call) (sequence : IsSequence part) (classes : List Class) (are : AreClasses part classes) (i first : ℕ) (read : Call) (value : List ℕ) (at : slice_get part i ≡ Some read) (a : AnswersValue read value) (f : IsFirstWrite part value first) where
  -- a writer of it has its class, and one that it has is a writer if it began in time
  writer_class : (j : ℕ) (write : Call) → slice_get part j ≡ Some write → IsWriter part write read → slice_get classes j ≡ Some (class.Writes first)
  writer_class j write at_j w = class_of_write part classes are j write value first at_j (w.writes ∙ ap Write (one_value read w.value value w.answered a)) f

  is_writer : (j : ℕ) (write : Call) → slice_get part j ≡ Some write → slice_get classes j ≡ Some (class.Writes first) → write.invoked ≤ a.response.place → IsWriter part write read
  is_writer j write at_j is began = record { recorded = Contains-slice_get part j write at_j; value = value; writes = written_by_class part classes are j first write value at_j is f; answered = a; began = began }

  began_before : (j : ℕ) (write : Call) → slice_get part j ≡ Some write → j < i → write.invoked ≤ a.response.place
  began_before j write at_j less =
      let up = sequence.places j i write read less at_j at in
      let later = sequence.responses read a.response (Contains-slice_get part i read at) a.responds in
      omega arith

  -- the write that a between stands for
  between_ends : (write between : Call) → (b : IsBetween part write between read) → (k : ℕ) × (slice_get part k ≡ Some between) × WriteEnds part k b.before.0.place
  between_ends write between b =
      let k = place_of part between b.recorded in
      (k.0, k.1, record { write = between; at = k.1; writes = b.writes; response = b.before.0; responds = b.before.1; ends = refl })

  module _ (stale : IsStaleValue part read) where
    -- no write ended before it began
    pub not_without_latest : IsLatestBefore part read.invoked None → ⊥
    not_without_latest none =
        let o = stale.overwritten stale.writer stale.has in
        let b = between_ends stale.writer o.0 o.1 in
        none b.0 o.1.before.0.place b.2 o.1.before.2

    -- no write of its value stands before it
    pub not_without_slowest : IsSlowest part classes first i None → ⊥
    not_without_slowest none =
        let j = place_of part stale.writer stale.has.recorded in
        let o = stale.overwritten stale.writer stale.has in
        none j.0 (writer_before part sequence i j.0 read stale.writer o.0 at j.1 o.1) (writer_class j.0 stale.writer j.1 stale.has)

    -- one that began during the read isn't overwritten before it
    pub not_with_next : (next : ℕ) (write : Call) → i < next → slice_get part next ≡ Some write → slice_get classes next ≡ Some (class.Writes first) → write.invoked ≤ a.response.place → ⊥
    not_with_next next write later at_n is began =
        let w = is_writer next write at_n is began in
        let o = stale.overwritten write w in
        let less = writer_before part sequence i next read write o.0 at at_n o.1 in
        omega arith

    -- the slowest has a response
    slow_between : (slow : ℕ) (write : Call) → slow < i → slice_get part slow ≡ Some write → slice_get classes slow ≡ Some (class.Writes first) → (between : Call) × IsBetween part write between read
    slow_between slow write less at_s is = stale.overwritten write (is_writer slow write at_s is (began_before slow write at_s less))

    pub not_with_pending : (slow : ℕ) (write : Call) → slow < i → slice_get part slow ≡ Some write → slice_get classes slow ≡ Some (class.Writes first) → write.response ≡ None → ⊥
    not_with_pending slow write less at_s is pending = (let o = slow_between slow write less at_s is in not_answered write o.1.after.0 pending o.1.after.1)

    -- and ended before the latest write began
    pub not_with_slow : (slow latest : ℕ) (write top : Call) (response : Response) → slow < i → slice_get part slow ≡ Some write → slice_get classes slow ≡ Some (class.Writes first) → write.response ≡ Some response → slice_get part latest ≡ Some top → IsLatestBefore part read.invoked (Some latest) → (response.place < top.invoked → ⊥) → ⊥
    not_with_slow slow latest write top response less at_s is responds at_t before not =
        let o = slow_between slow write less at_s is in
        let b = between_ends write o.0 o.1 in
        let low = before.1 b.0 o.1.before.0.place b.2 o.1.before.2 in
        let rise = rise_to part sequence b.0 latest o.0 top low b.1 at_t in
        let same = one_place write o.1.after.0 response o.1.after.1 responds in
        not (omega (arith, o.1.after.2))

  -- the write that each writer precedes
  pub overwritten_here : (slow latest : ℕ) (write top : Call) (response : Response) → slice_get part slow ≡ Some write → write.response ≡ Some response → IsSlowest part classes first i (Some slow) → slice_get part latest ≡ Some top → IsLatestBefore part read.invoked (Some latest) → response.place < top.invoked
      → ((j : ℕ) (other : Call) → i < j → slice_get part j ≡ Some other → slice_get classes j ≡ Some (class.Writes first) → other.invoked ≤ a.response.place → ⊥) → IsOverwrittenBy part read latest
  overwritten_here slow latest write top response at_s responds slowest at_t before less none =
      let ends = before.0.1 in
      let own = call_at part latest latest ends.write top ends.at at_t refl in
      let precedes : Precedes top read = (ends.response, ap (λ (c : Call). c.response) (sym own) ∙ ends.responds, omega (arith, ends.ends, before.0.2)) in
      overwritten_by part read top latest at_t (subst IsWrite own ends.writes) precedes write (is_writer slow write at_s slowest.1 (began_before slow write at_s slowest.0)) (λ other w.
      let j = place_of part other w.recorded in
      let is = writer_class j.0 other j.1 w in
      let began = (let same = one_place read w.answered.response a.response w.answered.responds a.responds in let b = w.began in plain_le other.invoked w.answered.response.place a.response.place same b) in
      elim (cases_lt i j.0) [
        | inl h ↦ absurd (none j.0 other h j.1 is began)
        | inr h ↦ elim (cases_lt j.0 i) [
          | inl g ↦ (let e = slowest.2 j.0 g is other write response j.1 at_s responds in (e.0, e.1, omega (arith, e.2)))
          | inr g ↦ absurd (not_both read a.reads (subst IsWrite (call_at part j.0 i other read j.1 at (omega arith)) (w.value, w.writes)))
        ]
      ])
    where
      plain_le : (x y z : ℕ) → y ≡ z → x ≤ y → x ≤ z
      plain_le x y z same le = omega arith

-- a read of that class
pub read_of : (part : List Call) (classes : List Class) → AreClasses part classes → (i first : ℕ) → i < length part → slice_get classes i ≡ Some (class.Answers first) → (call : Call) × (slice_get part i ≡ Some call) × (value : List ℕ) × AnswersValue call value × IsFirstWrite part value first
read_of part classes are i first inside is =
    let call = get_at part i inside in
    let h = are.each i call.0 (class.Answers first) call.1 is in
    (call.0, call.1, h.0, h.1, h.2)

-- a write of the value that is stale before a place is below the index
pub slow_within : (part : List Call) (classes : List Class) (first i slow : ℕ) → IsSlowest part classes first i (Some slow) → slow < i
slow_within part classes first i slow h = h.0

module _ (part : List Call) (sequence : IsSequence part) (classes : List Class) (are : AreClasses part classes) (i first : ℕ) (inside : i < length part) (is : slice_get classes i ≡ Some (class.Answers first)) (next : Option ℕ) (from_next : IsWriteFrom classes (i + 1) first next) where
  -- the next write, if it begins during the read
  pub stale_with_next : (call : Call) → slice_get part i ≡ Some call → BeginsDuring part next i → IsStaleValue part call → ⊥
  stale_with_next call at d stale =
      let h = read_of part classes are i first inside is in
      let own = call_at part i i h.0 call h.1 at refl in
      let st = subst (λ (c : Call). IsStaleValue part c) (sym own) stale in
      let w : IsWriteFrom classes (i + 1) first (Some d.0) = subst (λ (o : Option ℕ). IsWriteFrom classes (i + 1) first o) d.4 from_next in
      let reader = call_at part i i h.0 d.2 h.1 d.6 refl in
      let same = one_place d.2 h.3.response d.3 (ap (λ (c : Call). c.response) (sym reader) ∙ h.3.responds) d.7 in
      not_with_next part sequence classes are i first h.0 h.2 h.1 h.3 h.4 st d.0 d.1 (omega (arith, w.0)) d.5 w.1 (omega (arith, d.8))

  -- else no write of the value begins during it
  pub next_late : (BeginsDuring part next i → ⊥) → (call : Call) (value : List ℕ) (a : AnswersValue call value) → slice_get part i ≡ Some call → (j : ℕ) (other : Call) → i < j → slice_get part j ≡ Some other → slice_get classes j ≡ Some (class.Writes first) → other.invoked ≤ a.response.place → ⊥
  next_late not call value a at j other less at_j has le = by next refl
    where
      by : (o : Option ℕ) → next ≡ o → ⊥
      by None e = subst (λ (o : Option ℕ). IsWriteFrom classes (i + 1) first o) e from_next j (omega arith) has
      by (Some n) e =
          let w : IsWriteFrom classes (i + 1) first (Some n) = subst (λ (o : Option ℕ). IsWriteFrom classes (i + 1) first o) e from_next in
          let low = w.2 j (omega arith) has in
          let c = get_at part n (omega (arith, slice_get_within part j other at_j)) in
          let up = rise_to part sequence n j c.0 other low c.1 at_j in
          not (n, c.0, call, a.response, e, c.1, at, a.responds, omega arith)

  module _ (slow latest : ℕ) (slowest : IsSlowest part classes first i (Some slow)) (call : Call) (at : slice_get part i ≡ Some call) (before : IsLatestBefore part call.invoked (Some latest)) where
    -- the slowest write doesn't precede the latest
    pub not_preceding : (PrecedesAt part slow latest → ⊥) → IsStaleValue part call → ⊥
    not_preceding not stale = by s.0.response refl
      where
        h : (call : Call) × (slice_get part i ≡ Some call) × (value : List ℕ) × AnswersValue call value × IsFirstWrite part value first
        h = read_of part classes are i first inside is

        own : h.0 ≡ call
        own = call_at part i i h.0 call h.1 at refl

        st : IsStaleValue part h.0
        st = subst (λ (c : Call). IsStaleValue part c) (sym own) stale

        s : (c : Call) × (slice_get part slow ≡ Some c)
        s = get_at part slow (omega (arith, slowest.0, inside))

        by : (r : Option Response) → s.0.response ≡ r → ⊥
        by None e = not_with_pending part sequence classes are i first h.0 h.2 h.1 h.3 h.4 st slow s.0 slowest.0 s.1 slowest.1 e
        by (Some q) e =
            let top = before.0.1 in
            let earlier : IsLatestBefore part h.0.invoked (Some latest) = subst (λ (c : Call). IsLatestBefore part c.invoked (Some latest)) (sym own) before in
            not_with_slow part sequence classes are i first h.0 h.2 h.1 h.3 h.4 st slow latest s.0 top.write q slowest.0 s.1 slowest.1 e top.at earlier (λ less. not (s.0, top.write, s.1, top.at, (q, e, less)))

    -- it does, and no write of the value begins during the read
    pub preceding : (BeginsDuring part next i → ⊥) → PrecedesAt part slow latest → IsOverwrittenBy part call latest
    preceding not p =
        let h = read_of part classes are i first inside is in
        let own = call_at part i i h.0 call h.1 at refl in
        let earlier : IsLatestBefore part h.0.invoked (Some latest) = subst (λ (c : Call). IsLatestBefore part c.invoked (Some latest)) (sym own) before in
        subst (λ (c : Call). IsOverwrittenBy part c latest) own
        (overwritten_here part sequence classes are i first h.0 h.2 h.1 h.3 h.4 slow latest p.0 p.1 p.4.0 p.2 p.4.1 slowest p.3 earlier p.4.2 (next_late not h.0 h.2 h.3 h.1))

-- what a read without a value can't be
pub not_stale : (part : List Call) (classes : List Class) → AreClasses part classes → (i : ℕ) (call : Call) (own : Class) → slice_get part i ≡ Some call → slice_get classes i ≡ Some own → ((first : ℕ) → own ≡ class.Answers first → ⊥) → IsStaleValue part call → ⊥
not_stale part classes are i call (class.Writes k) at is not s = (let h = are.each i call (class.Writes k) at is in not_both call s.has.answered.reads (h.0, h.1))
not_stale part classes are i call (class.Answers k) at is not s = not k refl
not_stale part classes are i call class.Unwritten at is not s = written_not_unwritten part s.writer call s.has.value s.has.recorded s.has.writes s.has.answered (are.each i call class.Unwritten at is)
not_stale part classes are i call class.Nothing at is not s = nothing_no_value call s.has.value (are.each i call class.Nothing at is) s.has.answered
not_stale part classes are i call class.Pending at is not s = not_answered call s.has.answered.response (are.each i call class.Pending at is).1 s.has.answered.responds
