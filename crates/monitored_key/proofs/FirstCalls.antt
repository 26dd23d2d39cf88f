-- The state after a first call follows it.
use Rattle.std.proofs.Common.{ℕ, ◌≡◌, ◌≤◌, inl, inr, List, Option, None, ap, sym, subst, ◌∙◌, refl, arith}
use Rattle.std.specs.List.{Contains}
use Rattle.std.proofs.lemmas.Bool.{cases_eq}
use Rattle.std.proofs.lemmas.Option.{none-some, same_Some}
use Rattle.tag.specs.declared.actions.Action.TheVariants.{Write}
use Rattle.recorder.specs.declared.part.Call.{Call}
use Rattle.recorder.specs.Sound.{IsRead, IsWrite}
use Rattle.value_order.specs.Tables.{ReadsBy}
use Rattle.value_order.proofs.CallKinds.{not_both}
use Rattle.kept_zones.specs.Overwriting.{Known}
use Rattle.key_monitor.specs.Follows.{FollowsKept}
use Rattle.key_monitor.specs.KeptWrites.{AreWritesOf, IsKnownAs, KeptWrite}
use Rattle.key_monitor.specs.Pending.{AreOpenAt}
use Rattle.monitored_key.specs.Changes.{HasReadBegun, HasWriteBegun, nothing_held}
use Rattle.monitored_key.specs.FirstCalls.{IsFirstCall}
use Rattle.monitored_key.specs.Held.{Held, open_at, state_of, write_at}
use Rattle.monitored_key.specs.Maps.{entry_at}
use Rattle.monitored_key.proofs.Following.{state}
use Rattle.monitored_key.proofs.Indexing.{unended}
use Rattle.monitored_key.proofs.Maps.{there}
use Rattle.monitored_key.proofs.Nothing.{no_table, no_zones, pending_followed}

module _ (part : List Call) (place : ℕ) (call : Call) (f : IsFirstCall part place call) where
  all_pending : (c : Call) → Contains part c → c.response ≡ None
  all_pending c in_c = ap (λ (x : Call). x.response) (f.only c in_c) ∙ f.pending

  all_begun : (c : Call) → Contains part c → c.invoked ≤ place
  all_begun c in_c = let e : c.invoked ≡ place = ap (λ (x : Call). x.invoked) (f.only c in_c) ∙ f.at in omega arith

  -- what is known, as it is after the row
  as_held : (new : Held) → new.known ≡ no_zones → new.first ≡ None → AreWritesOf part (ReadsBy part no_table) place no_zones (write_at new)
      → AreOpenAt part place (open_at new) → FollowsKept part no_table place (state_of new)
  as_held new known first writes opens =
      let h = pending_followed part place f.sequence all_pending all_begun (write_at new) (open_at new) writes opens in
      subst (λ (o : Option ℕ). FollowsKept part no_table place (state new.known (write_at new) (open_at new) o)) (sym first)
      (subst (λ (k : Known). FollowsKept part no_table place (state k (write_at new) (open_at new) None)) (sym known) h)

  -- a read
  module _ (n : ℕ) (new : Held) (h : HasReadBegun nothing_held n place new) (reads : IsRead call) where
    read_writes : AreWritesOf part (ReadsBy part no_table) place no_zones (write_at new)
    read_writes = record {
      each = λ op kept at. absurd (none-some kept (sym (ap (λ (es : List (ℕ × KeptWrite)). entry_at es op) h.writes) ∙ at));
      all = λ write in_write writes. absurd (not_both call reads (subst IsWrite (f.only write in_write) writes));
    }

    read_opens : AreOpenAt part place (open_at new)
    read_opens = record {
      each = λ begin op at. elim (cases_eq begin place) [
        | inl same ↦ (
          call,
          record {
            recorded = f.recorded;
            reads = reads;
            unanswered = λ a. none-some a.response (sym f.pending ∙ a.responds);
          },
          f.at ∙ sym same,
        )
        | inr apart ↦ absurd (none-some op (sym (h.opens.others begin apart) ∙ at))
      ];
      all = λ read o.
          let e : read.invoked ≡ place = ap (λ (x : Call). x.invoked) (f.only read o.recorded) ∙ f.at in
          there (open_at new read.invoked) n (ap (open_at new) e ∙ h.opens.here);
    }

    pub first_read_followed : FollowsKept part no_table place (state_of new)
    first_read_followed = as_held new h.known h.first read_writes read_opens

  -- a write
  module _ (value : List ℕ) (new : Held) (h : HasWriteBegun nothing_held call.op.0 value place new) (wrote : call.action ≡ Write value)
    where
      known_as : IsKnownAs part (ReadsBy part no_table) place no_zones call.op.0 (unended value place) call
      known_as = record {
        recorded = f.recorded;
        number = refl;
        writes = wrote;
        begun = f.at;
        first = λ p e. none-some e.ended.response (sym (all_pending e.call e.of.recorded) ∙ e.ended.responds);
        zone = λ p e. absurd (none-some p e);
      }

      write_writes : AreWritesOf part (ReadsBy part no_table) place no_zones (write_at new)
      write_writes = record {
        each = λ op kept at. elim (cases_eq op call.op.0) [
          | inl same ↦
              let here : unended value place ≡ kept = same_Some (unended value place) kept
              (sym h.writes.here ∙ (ap (write_at new) (sym same) ∙ at)) in (
                call,
                subst (λ (k : KeptWrite). IsKnownAs part (ReadsBy part no_table) place no_zones op k call) here
                    (subst (λ (o : ℕ). IsKnownAs part (ReadsBy part no_table) place no_zones o (unended value place) call) (sym same)
                    known_as),
              )
          | inr apart ↦ absurd (none-some kept (sym (h.writes.others op apart) ∙ at))
        ];
        all = λ write in_write writes. inl (
          unended value place,
          ap (λ (x : Call). write_at new x.op.0) (f.only write in_write) ∙
              h.writes.here,
        );
      }

      write_opens : AreOpenAt part place (open_at new)
      write_opens = record {
        each = λ begin op at. absurd (none-some op (sym (ap (λ (es : List (ℕ × ℕ)). entry_at es begin) h.opens) ∙ at));
        all = λ read o. absurd (not_both call (subst IsRead (f.only read o.recorded) o.reads) (value, wrote));
      }

      pub first_write_followed : FollowsKept part no_table place (state_of new)
      first_write_followed = as_held new h.known h.first write_writes write_opens
