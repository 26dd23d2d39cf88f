-- What one row more does to the open reads.
use Rattle.std.proofs.Common.{ℕ, ◌≡◌, ◌≢◌, ◌≤◌, ◌+◌, inl, inr, List, Option, Some, None, IsSome, ap, sym, ◌∙◌, subst, refl, arith}
use Rattle.std.specs.List.{slice_get, Contains}
use Rattle.std.proofs.lemmas.Bool.{cases_lt, cases_eq}
use Rattle.std.proofs.lemmas.Option.{same_Some, none-some}
use Rattle.tag.proofs.Lists.{place_of}
use Rattle.recorder.specs.declared.part.Call.{Call}
use Rattle.recorder.specs.Parts.{IsSequence}
use Rattle.recorder.specs.Sound.{IsRead, IsWrite}
use Rattle.value_order.specs.Families.{IsAnsweredBy}
use Rattle.value_order.proofs.CallKinds.{not_both}
use Rattle.kept_families.specs.Continued.{AreOpenIn}
use Rattle.kept_families.specs.Open.{IsOpen, IsFirstOpen}
use Rattle.kept_families.proofs.Forgetting.{earlier_open}
use Rattle.key_monitor.specs.Judged.{BeginsCall, LeavesOut, AnswersCall}
use Rattle.key_monitor.specs.Pending.{AreOpenAt, IsLeastPlace, HasOpen, LacksOpen}

-- calls that begin at one place are one
same_begin : (part : List Call) → IsSequence part → (a b : Call) → Contains part a → Contains part b → a.invoked ≡ b.invoked → a ≡ b
same_begin part sequence a b in_a in_b same =
    let i = place_of part a in_a in
    let k = place_of part b in_b in
    elim (cases_lt i.0 k.0) [
      | inl h ↦ (let less = sequence.places i.0 k.0 a b h i.1 k.1 in absurd (omega arith))
      | inr h ↦ elim (cases_lt k.0 i.0) [
        | inl g ↦ (let less = sequence.places k.0 i.0 b a g k.1 i.1 in absurd (omega arith))
        | inr g ↦
            let at : i.0 ≡ k.0 = omega arith in
            same_Some a b (sym i.1 ∙ (ap (slice_get part) at ∙ k.1))
      ]
    ]

is_some : (o : Option ℕ) (v : ℕ) → o ≡ Some v → IsSome o
is_some None v e = absurd (none-some v e)
is_some (Some w) v e = refl

pub some_of : (o : Option ℕ) → IsSome o → (v : ℕ) × (o ≡ Some v)
some_of None h = absurd (cc)
some_of (Some v) h = (v, refl)

-- the least place is that of the first open read
pub first_open : (part : List Call) (row place : ℕ) (opens : ℕ → Option ℕ) → AreOpenAt part row opens → IsLeastPlace opens row place
    → IsFirstOpen part row place
first_open part row place opens are is = record {
  least = λ read o. (let s = some_of (opens read.invoked) (are.all read o) in is.least read.invoked s.0 s.1);
  next = is.next;
  reached = elim (cases_eq place (row + 1)) [
    | inl same ↦ inl same
    | inr apart ↦
        let s = some_of (opens place) (is.reached apart) in
        inr (are.each place s.0 s.1)
  ];
}

module _ (before after : List Call) (row place : ℕ) (opens : ℕ → Option ℕ) (are : AreOpenAt before row opens) (left : AreOpenIn row
    before after) where
  -- an open read of the part before is one of the part after, if it began by the row
  kept_open : (begun : (read : Call) → IsOpen before row read → read.invoked ≤ row) → (begin op : ℕ) → opens begin ≡ Some op
      → (read : Call) × IsOpen after row read × (read.invoked ≡ begin)
  kept_open begun begin op at =
      let r = are.each begin op at in
      let low = begun r.0 r.1 in
      elim (left r.0 r.1) [
        | inl late ↦ absurd (omega arith)
        | inr s ↦ (s.0, s.1, s.2 ∙ r.2)
      ]

  module _ (call : Call) (b : BeginsCall row place before after call) (begun : (read : Call) → IsOpen before row read
      → read.invoked ≤ row) where
    open_le : row ≤ place
    open_le = (let late = b.goes.later in omega arith)

    still_open : (read : Call) → IsOpen after row read → IsOpen after place read
    still_open read o = record {
      recorded = o.recorded;
      reads = o.reads;
      unanswered = λ a. o.unanswered (record {
        response = a.response;
        responds = a.responds;
        by = b.last read a.response o.recorded a.responds;
      });
    }

    -- a read that begins is open
    pub read_opens : IsRead call → (op : ℕ) (new : ℕ → Option ℕ) → HasOpen opens place op new → AreOpenAt after place new
    read_opens reads op new has = record {
      each = λ begin n at. elim (cases_eq begin place) [
        | inl same ↦ (
          call,
          record {
            recorded = b.recorded;
            reads = reads;
            unanswered = λ a. (let early = b.last call a.response b.recorded a.responds in
                let later = b.goes.sequence.responses call a.response b.recorded a.responds in let is = b.at in let late = b.later in
                absurd (omega arith));
          },
          b.at ∙ sym same,
        )
        | inr apart ↦
            let r = kept_open begun begin n (sym (has.others begin apart) ∙ at) in
            (r.0, still_open r.0 r.1, r.2)
      ];
      all = λ read o. elim (b.goes.continues.opens read (earlier_open after row place read open_le o)) [
        | inl late ↦ elim (b.others read o.recorded) [
          | inl same ↦ is_some (new read.invoked) op (ap new (ap (λ (c : Call). c.invoked) same ∙ b.at) ∙ has.here)
          | inr le ↦ absurd (omega arith)
        ]
        | inr s ↦
            let v = some_of (opens s.0.invoked) (are.all s.0 s.1) in
            let low = begun s.0 s.1 in
            let late = b.later in
            let apart : read.invoked ≢ place = λ e. absurd (omega (arith, s.2)) in
            is_some (new read.invoked) v.0 (has.others read.invoked apart ∙ (ap opens (sym s.2) ∙ v.1))
      ];
    }

    -- a write that begins isn't
    pub write_opens : IsWrite call → AreOpenAt after place opens
    write_opens writes = record {
      each = λ begin n at. (let r = kept_open begun begin n at in (r.0, still_open r.0 r.1, r.2));
      all = λ read o. elim (b.goes.continues.opens read (earlier_open after row place read open_le o)) [
        | inl late ↦ elim (b.others read o.recorded) [
          | inl same ↦ absurd (not_both read o.reads (subst IsWrite (sym same) writes))
          | inr le ↦ absurd (omega arith)
        ]
        | inr s ↦ (let v = some_of (opens s.0.invoked) (are.all s.0 s.1) in is_some (opens read.invoked) v.0 (ap opens (sym s.2) ∙ v.1))
      ];
    }

  module _ (call : Call) (a : AnswersCall row place before after call) (begun : (read : Call) → IsOpen before row read
      → read.invoked ≤ row) where
    ends_le : row ≤ place
    ends_le = (let late = a.goes.later in omega arith)

    -- an open read by the row is open, or is the call
    open_or : (read : Call) → IsOpen after row read → read.invoked ≢ call.invoked → IsOpen after place read
    open_or read o apart = record {
      recorded = o.recorded;
      reads = o.reads;
      unanswered = λ e. elim (a.only.others read o.recorded e) [
        | inl same ↦ apart (ap (λ (c : Call). c.invoked) same)
        | inr early ↦ o.unanswered early
      ];
    }

    open_before : (read : Call) → IsOpen after place read → (same : Call) × IsOpen before row same × (same.invoked ≡ read.invoked)
    open_before read o = elim (a.goes.continues.opens read (earlier_open after row place read ends_le o)) [
      | inl late ↦ (let low = a.begun read o.recorded in absurd (omega arith))
      | inr s ↦ s
    ]

    answered_here : (read : Call) → IsOpen after place read → read.invoked ≡ call.invoked → IsAnsweredBy place read
    answered_here read o e = subst (IsAnsweredBy place) (sym (same_begin after a.goes.sequence read call o.recorded a.only.recorded e))
        (record { response = a.only.response; responds = a.only.responds; by = (let at = a.only.at in omega arith) })

    -- an answered read is open no more
    pub read_closes : (new : ℕ → Option ℕ) → LacksOpen opens call.invoked new → AreOpenAt after place new
    read_closes new lacks = record {
      each = λ begin n at. elim (cases_eq begin call.invoked) [
        | inl same ↦ absurd (none-some n (sym (ap new same ∙ lacks.here) ∙ at))
        | inr apart ↦
            let r = kept_open begun begin n (sym (lacks.others begin apart) ∙ at) in
            (r.0, open_or r.0 r.1 (λ e. apart (sym r.2 ∙ e)), r.2)
      ];
      all = λ read o.
          let s = open_before read o in
          let v = some_of (opens s.0.invoked) (are.all s.0 s.1) in
          let apart : read.invoked ≢ call.invoked = λ e. o.unanswered (answered_here read o e) in
          is_some (new read.invoked) v.0 (lacks.others read.invoked apart ∙ (ap opens (sym s.2) ∙ v.1));
    }

    -- a write's answer closes none
    pub write_closes : IsWrite call → AreOpenAt after place opens
    write_closes writes = record {
      each = λ begin n at.
          let r = kept_open begun begin n at in (
            r.0,
            open_or r.0 r.1 (λ e. not_both r.0 r.1.reads (subst IsWrite (sym (same_begin after a.goes.sequence r.0 call r.1.recorded
                a.only.recorded e)) writes)),
            r.2,
          );
      all = λ read o.
          let s = open_before read o in
          let v = some_of (opens s.0.invoked) (are.all s.0 s.1) in
          is_some (opens read.invoked) v.0 (ap opens (sym s.2) ∙ v.1);
    }

-- a read that is left out is open no more
pub left_out_closes : (before after : List Call) (row : ℕ) (opens : ℕ → Option ℕ) → AreOpenAt before row opens → (read : Call)
    → LeavesOut row before after read → (new : ℕ → Option ℕ) → LacksOpen opens read.invoked new → AreOpenAt after row new
left_out_closes before after row opens are read l new lacks = record {
  each = λ begin n at. elim (cases_eq begin read.invoked) [
    | inl same ↦ absurd (none-some n (sym (ap new same ∙ lacks.here) ∙ at))
    | inr apart ↦
        let r = are.each begin n (sym (lacks.others begin apart) ∙ at) in
        elim (l.others r.0 r.1) [
          | inl same ↦ absurd (apart (sym r.2 ∙ ap (λ (c : Call). c.invoked) same))
          | inr s ↦ (s.0, s.1, s.2 ∙ r.2)
        ]
  ];
  all = λ other o. elim (l.goes.continues.opens other o) [
    | inl late ↦ (let low = l.goes.begun other o.recorded in absurd (omega arith))
    | inr s ↦
        let v = some_of (opens s.0.invoked) (are.all s.0 s.1) in
        is_some (new other.invoked) v.0 (lacks.others other.invoked (l.gone other o) ∙ (ap opens (sym s.2) ∙ v.1))
  ];
}
