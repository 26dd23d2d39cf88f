-- Calls of which none has ended are followed by a state that knows of no end.
use Rattle.std.proofs.Common.{ℕ, ◌≡◌, ◌≤◌, inl, List, [], Option, Some, None, sym, ◌∙◌, refl, arith}
use Rattle.std.specs.List.{Contains}
use Rattle.std.proofs.lemmas.Option.{none-some}
use Rattle.recorder.specs.declared.part.Call.{Call}
use Rattle.recorder.specs.declared.part.Response.{Response}
use Rattle.recorder.specs.Parts.{IsSequence}
use Rattle.tag_check.specs.Least.{HasNoPair}
use Rattle.value_order.specs.Faults.{IsLateNothing}
use Rattle.value_order.specs.Tables.{ReadsBy}
use Rattle.kept_zones.specs.Overwriting.{Known}
use Rattle.key_monitor.specs.Follows.{FollowsKept}
use Rattle.key_monitor.specs.Judged.{AreJudged}
use Rattle.key_monitor.specs.KeptWrites.{AreWritesOf, KeptWrite}
use Rattle.key_monitor.specs.Pending.{AreOpenAt}
use Rattle.key_monitor.specs.Shown.{IsFirstShow}
use Rattle.key_monitor.specs.ZonesOf.{AreZonesOf, NoneForgotten}
use Rattle.monitored_key.specs.Changes.{nothing_held}
use Rattle.monitored_key.specs.Held.{state_of}

-- no read has read a write
abbrev pub no_table : ℕ → Option ℕ
no_table number = None

abbrev pub no_zones : Known
no_zones = record { zones = []; floor = 0 }

module _ (part : List Call) (row : ℕ) (sequence : IsSequence part) (pending : (call : Call) → Contains part call → call.response ≡ None)
    (begun : (call : Call) → Contains part call → call.invoked ≤ row) where
  no_answer : (call : Call) → Contains part call → (response : Response) → call.response ≡ Some response → ⊥
  no_answer call there response e = none-some response (sym (pending call there) ∙ e)

  pub pending_judged : AreJudged part no_table row
  pending_judged = record {
    sequence = sequence;
    own = λ a b r s in_a in_b is_a is_b same. absurd (no_answer a in_a r is_a);
    last = λ call response there e. absurd (no_answer call there response e);
    begun = begun;
    table = λ number target e. absurd (none-some target e);
    sound = record {
      recorded = λ write read by. by.recorded;
      each = λ write read by. absurd (none-some write.op.0 by.is);
    };
    free = λ h. no_answer h.2.there.first h.2.there.of_x.recorded h.2.there.ended.response h.2.there.ended.responds;
  }

  pub pending_zones : AreZonesOf part (ReadsBy part no_table) row no_zones
  pending_zones = record {
    each = λ end last at. absurd (none-some last at);
    all = λ write end there writes first. absurd (no_answer first.0.call first.0.of.recorded first.0.ended.response first.0.ended.responds);
    floor = inl refl;
  }

  pub pending_kept : NoneForgotten part (ReadsBy part no_table) row no_zones
  pending_kept = λ write end last at zone gone. none-some last at

  pub pending_show : IsFirstShow part None
  pending_show = λ place s. no_answer s.call s.recorded s.response s.responds

  pub pending_in_time : HasNoPair part IsLateNothing
  pending_in_time = λ call there pair. no_answer call there pair.2.nothing.response pair.2.nothing.responds

  pub pending_followed : (writes : ℕ → Option KeptWrite) (opens : ℕ → Option ℕ)
      → AreWritesOf part (ReadsBy part no_table) row no_zones writes → AreOpenAt part row opens
      → FollowsKept part no_table row (record { known = no_zones; writes = writes; opens = opens; first = None })
  pending_followed writes opens are open_at = record {
    follows = record {
      judged = pending_judged;
      zones = pending_zones;
      writes = are;
      opens = open_at;
      show = pending_show;
      in_time = pending_in_time;
    };
    kept = pending_kept;
  }

none_in : (call : Call) → Contains [] call → ⊥
none_in call there = let low = there.1 in absurd (omega arith)

no_sequence : IsSequence []
no_sequence = record {
  numbers = λ i j a b less at_a at_b. absurd (none-some a at_a);
  places = λ i j a b less at_a at_b. absurd (none-some a at_a);
  responses = λ call response there e. absurd (none_in call there);
}

-- no calls
pub nothing_followed : (row : ℕ) → FollowsKept [] no_table row (state_of nothing_held)
nothing_followed row =
    pending_followed [] row no_sequence (λ call there. absurd (none_in call there)) (λ call there. absurd (none_in call there))
    (λ n. None) (λ b. None)
    (record {
      each = λ op kept at. absurd (none-some kept at);
      all = λ write there writes. absurd (none_in write there);
    })
    (record {
      each = λ begin op at. absurd (none-some op at);
      all = λ read o. absurd (none_in read o.recorded);
    })
