-- A pass of forgetting, a family after the other.
use Rattle.std.proofs.Common.{ℕ, ◌≡◌, ◌+◌, List, Option, Some, None, ap, sym, subst, ◌∙◌, refl}
use Rattle.std.proofs.lemmas.Option.{none-some}
use Rattle.recorder.specs.declared.part.Call.{Call}
use Rattle.kept_zones.specs.Overwriting.{Known}
use Rattle.kept_zones.specs.Places.{PlaceMap}
use Rattle.key_monitor.specs.Follows.{Follows, FollowsKept}
use Rattle.key_monitor.specs.Forgetting.{AreKnownAt, ForgetsOne}
use Rattle.key_monitor.specs.KeptWrites.{KeptWrite, LacksKept}
use Rattle.key_monitor.specs.Pending.{IsLeastPlace}
use Rattle.key_monitor.proofs.Following.{one_goes}
use Rattle.key_monitor.proofs.Opens.{first_open}
use Rattle.monitored_key.specs.declared.kept.Kept.{Kept}
use Rattle.monitored_key.specs.declared.writes.Writes.{Writes}
use Rattle.monitored_key.specs.WritesOf.{AreFit, kept_of, owner_of}
use Rattle.monitored_key.specs.Kept.{IsSound, StandBefore, key_of}
use Rattle.monitored_key.specs.Maps.{Lacks, entry_at}
use Rattle.monitored_key.specs.Passes.{ForgetsAll, GoesOn}
use Rattle.monitored_key.proofs.Maps.{found}
use Rattle.monitored_key.proofs.Owned.{owned_of}
use Rattle.monitored_key.proofs.Rows.{one_end}
use Rattle.monitored_key.proofs.Standing.{high_after, stand_gone}

lacks_kept : (writes : ℕ → Option KeptWrite) (n : ℕ) (new : ℕ → Option KeptWrite) → Lacks writes n new → LacksKept writes n new
lacks_kept writes n new l = record { here = l.here; others = l.others }

module _ (old mid : Kept) (place : ℕ) (g : GoesOn old mid)
    (least : (row : ℕ) → row + 1 ≡ old.next → IsLeastPlace (entry_at old.opens.entries) row place) where
  -- what is known of the zones, where the state follows
  known_at : (part : List Call) (source : ℕ → Option ℕ) (row : ℕ) → row + 1 ≡ old.next → Follows part source row (key_of mid)
      → AreKnownAt part source row place mid.zones
  known_at part source row is f = record {
    judged = f.judged;
    opens = first_open part row place (entry_at mid.opens.entries) f.opens
        (subst (λ (o : PlaceMap). IsLeastPlace (entry_at o.entries) row place) (sym g.stays.opens) (least row is));
    zones = f.zones;
  }

  -- one goes
  module _ (end : ℕ) (zones : Known) (writes : Writes) (f : ForgetsOne mid.zones place (Some end) zones) (fit : AreFit writes)
      (gone : (n : ℕ) (kept : KeptWrite) → owner_of mid.writes end ≡ Some n → kept_of mid.writes n ≡ Some kept
      → (kept.end ≡ Some end) × Lacks (kept_of mid.writes) n (kept_of writes))
      (free : Lacks (owner_of mid.writes) end (owner_of writes)) where
    pub one_more : GoesOn old (record mid { zones = zones; writes = writes })
    one_more =
        let z = f.0 in
        let o = found (owner_of mid.writes end) (g.together.owned end z.last z.is) in
        let k = (owned_of mid.writes g.fit).owner end o.0 o.1 in
        let l = (gone o.0 k.0 o.1 k.1).1 in
        record {
          fit = fit;
          together = stand_gone mid.zones (kept_of mid.writes) (owner_of mid.writes) (entry_at mid.opens.entries) mid.next mid.number
              g.together end z.last o.0 z.is zones z.lacks z.floor
              (one_end mid.zones (kept_of mid.writes) (owner_of mid.writes) (entry_at mid.opens.entries) mid.next
              mid.number (owned_of mid.writes g.fit) g.together end o.0 o.1) (kept_of writes) l (owner_of writes) free;
          stays = record { opens = g.stays.opens; first = g.stays.first; next = g.stays.next; number = g.stays.number };
          fewer = λ n x at. g.fewer n x (sym (l.others n (λ same. none-some x (sym l.here ∙ (ap (kept_of writes) (sym same) ∙ at)))) ∙ at);
          follows = λ part source row is h.
              let m = g.follows part source row is h in
              let s = f.1 part source row (known_at part source row is m) in
              one_goes part source row (key_of mid) m o.0 end k.0 zones k.1 k.2 z.lacks s.0 s.1 (kept_of writes)
              (lacks_kept (kept_of mid.writes) o.0 (kept_of writes) l);
        }

  -- none goes
  module _ (zones : Known) (f : ForgetsOne mid.zones place None zones) where
    pub all_sound : IsSound (record mid { zones = zones })
    all_sound = subst (λ (z : Known). IsSound (record mid { zones = z })) (sym f.0) (record {
      fit = g.fit;
      together = g.together;
      high = high_after mid.zones place f.1;
    })

    pub all_forgotten : ForgetsAll (key_of old) (key_of (record mid { zones = zones })) old.next
    all_forgotten part source row is h =
        let m = g.follows part source row is h in
        subst (λ (z : Known). FollowsKept part source row (key_of (record mid { zones = z }))) (sym f.0) (record {
          follows = m;
          kept = f.2 part source row (known_at part source row is m);
        })

-- the pass has not begun
pub goes_first : (kept : Kept) → AreFit kept.writes × StandBefore kept kept.next → GoesOn kept kept
goes_first kept h = record {
  fit = h.0;
  together = h.1;
  stays = record { opens = refl; first = refl; next = refl; number = refl };
  fewer = λ n x at. at;
  follows = λ part source row is f. f;
}
