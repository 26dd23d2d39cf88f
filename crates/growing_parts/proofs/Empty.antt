-- What is known of a key without a call, and with its first one.
use Rattle.std.proofs.Common.{ℕ, ◌≡◌, ◌≤◌, inl, inr, List, [], ◌∷◌, Option, Some, None, IsSome, ap, sym, ◌∙◌, subst, refl}
use Rattle.std.proofs.Common.{arith}
use Rattle.std.specs.List.{Contains}
use Rattle.std.proofs.lemmas.Bool.{cases_eq}
use Rattle.std.proofs.lemmas.List.Elements.{Contains-push, Contains-push_cases}
use Rattle.std.proofs.lemmas.Option.{none-some, same_Some, slice_get_within}
use Rattle.tag.specs.declared.actions.Action.TheVariants.{Write}
use Rattle.recorder.specs.declared.part.Call.{Call}
use Rattle.recorder.specs.declared.part.Response.{Response}
use Rattle.recorder.specs.Parts.{IsPending, IsSequence}
use Rattle.recorder.specs.Sound.{IsRead, IsWrite}
use Rattle.tag_check.specs.Least.{HasNoPair}
use Rattle.value_order.specs.Families.{IsAnsweredBy}
use Rattle.value_order.specs.Faults.{IsLateNothing}
use Rattle.value_order.specs.Tables.{ReadsBy}
use Rattle.value_order.proofs.CallKinds.{not_both}
use Rattle.kept_families.specs.SoundTables.{AreAllRead}
use Rattle.kept_zones.specs.Overwriting.{last_of}
use Rattle.key_monitor.specs.Follows.{KeyState, FollowsKept}
use Rattle.key_monitor.specs.Judged.{AreJudged}
use Rattle.key_monitor.specs.KeptWrites.{KeptWrite, IsKnownAs, AreWritesOf, HasKept}
use Rattle.key_monitor.specs.Pending.{AreOpenAt, HasOpen}
use Rattle.key_monitor.specs.Shown.{IsFirstShow}
use Rattle.key_monitor.specs.ZonesOf.{AreZonesOf}
use Rattle.growing_parts.specs.Nothing.{KnowsNothing, IsEmptyTable, BeginsFirst}

some_is : (o : Option ℕ) (v : ℕ) → o ≡ Some v → IsSome o
some_is o v e = subst IsSome (sym e) refl

-- ---- calls of which none is answered

module _ (part : List Call) (source : ℕ → Option ℕ) (row : ℕ) (state : KeyState) (k : KnowsNothing state) (empty : IsEmptyTable source)
    (sequence : IsSequence part) (begun : (call : Call) → Contains part call → call.invoked ≤ row) (unanswered : (call : Call)
    → Contains part call → (response : Response) → call.response ≡ Some response → ⊥) where
  no_entry : (number target : ℕ) → source number ≡ Some target → ⊥
  no_entry number target at = none-some target (sym (empty number) ∙ at)

  no_zone : (end last : ℕ) → last_of state.known.zones end ≡ Some last → ⊥
  no_zone end last at = none-some last (sym (ap (λ (zones : List (ℕ × ℕ)). last_of zones end) k.zones) ∙ at)

  no_end : (call : Call) → Contains part call → IsAnsweredBy row call → ⊥
  no_end call there a = unanswered call there a.response a.responds

  judged : AreJudged part source row
  judged = record {
    sequence = sequence;
    own = λ a b r s in_a in_b e f same. absurd (unanswered a in_a r e);
    last = λ call response there e. absurd (unanswered call there response e);
    begun = begun;
    table = λ number target at. absurd (no_entry number target at);
    sound = record {
      recorded = λ write read reads. reads.recorded;
      each = λ write read reads. absurd (no_entry read.op.0 write.op.0 reads.is);
    };
    free = λ o. no_end o.2.there.first o.2.there.of_x.recorded o.2.there.ended;
  }

  zones : AreZonesOf part (ReadsBy part source) row state.known
  zones = record {
    each = λ end last at. absurd (no_zone end last at);
    all = λ write end there is first. absurd (no_end first.0.call first.0.of.recorded first.0.ended);
    floor = inl k.floor;
  }

  show : IsFirstShow part state.first
  show = subst (IsFirstShow part) (sym k.first) (λ place s. unanswered s.call s.recorded s.response s.responds)

  in_time : HasNoPair part IsLateNothing
  in_time later there p = unanswered p.0 p.1 p.2.precedes.0 p.2.precedes.1

  -- they are followed, if their writes and their open reads are
  pub followed_with : (writes : ℕ → Option KeptWrite) (opens : ℕ → Option ℕ)
      → AreWritesOf part (ReadsBy part source) row state.known writes → AreOpenAt part row opens
      → FollowsKept part source row (record { known = state.known; writes = writes; opens = opens; first = state.first })
  followed_with writes opens of are = record {
    follows = record { judged = judged; zones = zones; writes = of; opens = are; show = show; in_time = in_time };
    kept = λ write end last at z f. no_zone end last at;
  }

-- ---- no call

no_sequence : IsSequence []
no_sequence = record {
  numbers = λ i j a b less at_i at_j. absurd (omega (arith, slice_get_within [] i a at_i));
  places = λ i j a b less at_i at_j. absurd (omega (arith, slice_get_within [] i a at_i));
  responses = λ call response h e. absurd (omega (arith, h.1));
}

pub nothing_followed : (source : ℕ → Option ℕ) (row : ℕ) (state : KeyState) → KnowsNothing state → IsEmptyTable source
    → FollowsKept [] source row state
nothing_followed source row state k empty = followed_with [] source row state k empty no_sequence (λ call h. absurd (omega (arith, h.1)))
    (λ call h response e. absurd (omega (arith, h.1))) state.writes state.opens (record {
      each = λ op kept at. absurd (none-some kept (sym (k.writes op) ∙ at));
      all = λ write h is. absurd (omega (arith, h.1));
    }) (record {
      each = λ begin op at. absurd (none-some op (sym (k.opens begin) ∙ at));
      all = λ read o. absurd (omega (arith, o.recorded.1));
    })

-- ---- one call

module _ (source : ℕ → Option ℕ) (place : ℕ) (call : Call) (state : KeyState) (k : KnowsNothing state) (empty : IsEmptyTable source) (at :
    call.invoked ≡ place) (pending : IsPending call) where
  only : (other : Call) → Contains (call ∷ []) other → other ≡ call
  only other h = elim (Contains-push_cases [] call other h) [ inl none ↦ absurd (omega (arith, none.1)) | inr same ↦ sym same ]

  there : Contains (call ∷ []) call
  there = Contains-push [] call

  one_place : (other : Call) → Contains (call ∷ []) other → other.invoked ≡ place
  one_place other h = ap (λ (c : Call). c.invoked) (only other h) ∙ at

  waits : (other : Call) → Contains (call ∷ []) other → (response : Response) → other.response ≡ Some response → ⊥
  waits other h response e = none-some response (sym (ap (λ (c : Call). c.response) (only other h) ∙ pending) ∙ e)

  one_sequence : IsSequence (call ∷ [])
  one_sequence = record {
    numbers = λ i j a b less at_i at_j. absurd (omega (arith, slice_get_within (call ∷ []) j b at_j));
    places = λ i j a b less at_i at_j. absurd (omega (arith, slice_get_within (call ∷ []) j b at_j));
    responses = λ other response h e. absurd (waits other h response e);
  }

  one_begun : (other : Call) → Contains (call ∷ []) other → other.invoked ≤ place
  one_begun other h = (let is = one_place other h in omega arith)

  one_read : IsRead call → (number : ℕ) (opens : ℕ → Option ℕ) → HasOpen state.opens place number opens
      → FollowsKept (call ∷ []) source place (record { known = state.known; writes = state.writes; opens = opens; first = state.first })
  one_read reads number opens has = followed_with (call ∷ []) source place state k empty one_sequence one_begun waits state.writes opens
      (record {
        each = λ op kept e. absurd (none-some kept (sym (k.writes op) ∙ e));
        all = λ write h is. absurd (not_both call reads (subst IsWrite (only write h) is));
      }) (record {
        each = λ begin op e. elim (cases_eq begin place) [
          | inl same ↦ (
            call,
            record { recorded = there; reads = reads; unanswered = λ a. waits call there a.response a.responds },
            at ∙ sym same,
          )
          | inr apart ↦ absurd (none-some op (sym (has.others begin apart ∙ k.opens begin) ∙ e))
        ];
        all = λ read o. some_is (opens read.invoked) number (ap opens (one_place read o.recorded) ∙ has.here);
      })

  module _ (value : List ℕ) (wrote : call.action ≡ Write value) where
    abbrev kept_write : KeptWrite
    kept_write = record { value = value; begin = place; end = None }

    known_as : (number : ℕ) (kept : KeptWrite) → call.op.0 ≡ number → kept_write ≡ kept
        → IsKnownAs (call ∷ []) (ReadsBy (call ∷ []) source) place state.known number kept call
    known_as number kept same is = subst (λ (w : KeptWrite). IsKnownAs (call ∷ []) (ReadsBy (call ∷ []) source) place state.known number w
        call) is (record {
          recorded = there;
          number = same;
          writes = wrote;
          begun = at;
          first = λ end e. waits e.call e.of.recorded e.ended.response e.ended.responds;
          zone = λ end e. absurd (none-some end e);
        })

    one_write : (writes : ℕ → Option KeptWrite)
        → HasKept state.writes call.op.0 (record { value = value; begin = place; end = None }) writes
        → FollowsKept (call ∷ []) source place (record {
          known = state.known;
          writes = writes;
          opens = state.opens;
          first = state.first;
        })
    one_write writes has = followed_with (call ∷ []) source place state k empty one_sequence one_begun waits writes state.opens (record {
      each = λ op kept e. elim (cases_eq op call.op.0) [
        | inl same ↦ (call, known_as op kept (sym same) (same_Some kept_write kept (sym has.here ∙ (ap writes (sym same) ∙ e))))
        | inr apart ↦ absurd (none-some kept (sym (has.others op apart ∙ k.writes op) ∙ e))
      ];
      all = λ write h is. inl (kept_write, ap writes (ap (λ (c : Call). c.op.0) (only write h)) ∙ has.here);
    }) (record {
      each = λ begin op e. absurd (none-some op (sym (k.opens begin) ∙ e));
      all = λ read o. absurd (not_both read o.reads (value, ap (λ (c : Call). c.action) (only read o.recorded) ∙ wrote));
    })

-- ---- the first call

pub first_read : (source : ℕ → Option ℕ) (place : ℕ) (after : List Call) (call : Call) (state : KeyState) → KnowsNothing state
    → IsEmptyTable source → BeginsFirst place after call → IsRead call → (number : ℕ) (opens : ℕ → Option ℕ)
    → HasOpen state.opens place number opens → FollowsKept after source place (record {
      known = state.known;
      writes = state.writes;
      opens = opens;
      first = state.first;
    })
first_read source place after call state k empty b reads number opens has = subst (λ (calls : List Call). FollowsKept calls source place
    (record { known = state.known; writes = state.writes; opens = opens; first = state.first })) (sym b.alone) (one_read source place call
    state k empty b.at b.pending reads number opens has)

pub first_write : (source : ℕ → Option ℕ) (place : ℕ) (after : List Call) (call : Call) (state : KeyState) → KnowsNothing state
    → IsEmptyTable source → BeginsFirst place after call → (value : List ℕ) → call.action ≡ Write value → (writes : ℕ → Option KeptWrite)
    → HasKept state.writes call.op.0 (record { value = value; begin = place; end = None }) writes
    → FollowsKept after source place (record {
      known = state.known;
      writes = writes;
      opens = state.opens;
      first = state.first;
    })
first_write source place after call state k empty b value wrote writes has = subst (λ (calls : List Call). FollowsKept calls source place
    (record { known = state.known; writes = writes; opens = state.opens; first = state.first })) (sym b.alone) (one_write source place
    call state k empty b.at b.pending value wrote writes has)

-- none of them is answered
pub first_all_read : (source : ℕ → Option ℕ) (place : ℕ) (after : List Call) (call : Call) → BeginsFirst place after call
    → AreAllRead after (ReadsBy after source)
first_all_read source place after call b read h reads done =
    let alone = subst (λ (calls : List Call). Contains calls read) b.alone h in
    elim (Contains-push_cases [] call read alone) [
      | inl none ↦ absurd (omega (arith, none.1))
      | inr same ↦ absurd (none-some done.0 (sym (ap (λ (c : Call). c.response) (sym same) ∙ b.pending) ∙ done.1))
    ]
