-- What the paths of an end and of a forgetting leave.
use Rattle.std.proofs.Common.{ℕ, ◌≡◌, ◌<◌, Option, Some, None, Bool, true, false, MatchBool, IsSome, length, ap, sym, subst, ◌∙◌}
use Rattle.std.proofs.lemmas.Bool.{MatchBool-at_false, MatchBool-at_true}
use Rattle.std.proofs.lemmas.Option.{same_Some}
use Rattle.key_monitor.specs.KeptWrites.{KeptWrite}
use Rattle.monitored_key.specs.declared.indexed.Indexed.{Indexed}
use Rattle.monitored_key.specs.declared.writes.Writes.{Writes}
use Rattle.monitored_key.specs.Indexed.{AreMapped, owner_in, write_in}
use Rattle.monitored_key.specs.Maps.{Lacks, Sets}
use Rattle.monitored_key.specs.Slots.{GoesHere, HasEndHere, HasOtherEnd, HasOtherNumber}
use Rattle.monitored_key.specs.WritesOf.{AreFit, kept_of, owner_of}
use Rattle.monitored_key.proofs.Indexing.{with_end}
use Rattle.monitored_key.proofs.Maps.{found}
use Rattle.monitored_key.proofs.Keeping.{Ended, Gone, end_first, end_more, end_second, go_first, go_more, go_second, more_is, there_more}

abbrev Slot : Type 0
Slot = Option (ℕ × KeptWrite)

module _ (s : Writes) (fit : AreFit s) (n place : ℕ) (there : (k : KeptWrite) × (kept_of s n ≡ Some k) × (k.end ≡ None))
    (free : owner_of s place ≡ None) where
  pub ended_first : (first : Slot) (b : Bool) → b ≡ true
      → MatchBool b (HasEndHere s.first n place first) (HasOtherNumber s.first n × (first ≡ s.first))
      → Ended s n place there.0 (record { alloc = s.alloc; first = first; second = s.second; more = s.more })
  ended_first first b e m = end_first s fit n place there.0 there.1 there.2 free first (MatchBool-at_true _ _ e m)

  module _ (first : Slot) (b : Bool) (no : b ≡ false)
      (m : MatchBool b (HasEndHere s.first n place first) (HasOtherNumber s.first n × (first ≡ s.first))) where
    other : HasOtherNumber s.first n × (first ≡ s.first)
    other = MatchBool-at_false _ _ no m

    pub ended_second : (second : Slot) (d : Bool) → d ≡ true
        → MatchBool d (HasEndHere s.second n place second) (HasOtherNumber s.second n × (second ≡ s.second))
        → Ended s n place there.0 (record { alloc = s.alloc; first = first; second = second; more = s.more })
    ended_second second d e k =
        subst (λ (f : Slot). Ended s n place there.0 (record { alloc = s.alloc; first = f; second = second; more = s.more })) (sym other.1)
        (end_second s fit n place there.0 there.1 there.2 free other.0 second (MatchBool-at_true _ _ e k))

    module _ (second : Slot) (d : Bool) (nor : d ≡ false)
        (k : MatchBool d (HasEndHere s.second n place second) (HasOtherNumber s.second n × (second ≡ s.second))) where
      too : HasOtherNumber s.second n × (second ≡ s.second)
      too = MatchBool-at_false _ _ nor k

      pub more_at : write_in s.more n ≡ Some there.0
      more_at = there_more s fit n place there.0 there.1 there.2 free other.0 too.0

      pub ended_more : (more : Indexed) → AreMapped more → Sets (write_in s.more) n (with_end there.0 place) (write_in more)
          → Sets (owner_in s.more) place n (owner_in more)
          → Ended s n place there.0 (record { alloc = s.alloc; first = first; second = second; more = more })
      ended_more more mapped sets owns =
          subst (λ (f : Slot). Ended s n place there.0 (record { alloc = s.alloc; first = f; second = second; more = more })) (sym other.1)
          (subst (λ (g : Slot). Ended s n place there.0 (record { alloc = s.alloc; first = s.first; second = g; more = more })) (sym too.1)
          (end_more s fit n place there.0 there.1 there.2 free other.0 too.0 more mapped sets owns))

-- whichever write was kept there
pub ended_kept : (s : Writes) (n place : ℕ) (kept : KeptWrite) (new : Writes) → kept_of s n ≡ Some kept → Ended s n place kept new
    → (k : KeptWrite) → kept_of s n ≡ Some k → Sets (kept_of s) n (with_end k place) (kept_of new)
ended_kept s n place kept new there e k at =
    subst (λ (x : KeptWrite). Sets (kept_of s) n (with_end x place) (kept_of new)) (same_Some kept k (sym there ∙ at)) e.kept_is

module _ (s : Writes) (fit : AreFit s) (end : ℕ) where
  pub gone_first : (first : Slot) (b : Bool) → b ≡ true
      → MatchBool b (GoesHere s.first end first) (HasOtherEnd s.first end × (first ≡ s.first))
      → (n : ℕ) × (k : KeptWrite) × Gone s end n k (record { alloc = s.alloc; first = first; second = s.second; more = s.more })
  gone_first first b e m = let h = MatchBool-at_true _ _ e m in (h.number, h.kept, go_first s fit end first h)

  module _ (first : Slot) (b : Bool) (no : b ≡ false)
      (m : MatchBool b (GoesHere s.first end first) (HasOtherEnd s.first end × (first ≡ s.first))) where
    than : HasOtherEnd s.first end × (first ≡ s.first)
    than = MatchBool-at_false _ _ no m

    pub gone_second : (second : Slot) (d : Bool) → d ≡ true
        → MatchBool d (GoesHere s.second end second) (HasOtherEnd s.second end × (second ≡ s.second))
        → (n : ℕ) × (k : KeptWrite) × Gone s end n k (record { alloc = s.alloc; first = first; second = second; more = s.more })
    gone_second second d e k =
        let h = MatchBool-at_true _ _ e k in (
          h.number,
          h.kept,
          subst (λ (f : Slot). Gone s end h.number h.kept (record { alloc = s.alloc; first = f; second = second; more = s.more }))
              (sym than.1) (go_second s fit end than.0 second h),
        )

    module _ (second : Slot) (d : Bool) (nor : d ≡ false)
        (k : MatchBool d (GoesHere s.second end second) (HasOtherEnd s.second end × (second ≡ s.second))) where
      than_too : HasOtherEnd s.second end × (second ≡ s.second)
      than_too = MatchBool-at_false _ _ nor k

      pub owner_more : owner_of s end ≡ owner_in s.more end
      owner_more = more_is s fit end than.0 than_too.0

      pub gone_more : (n : ℕ) (kept : KeptWrite) → owner_in s.more end ≡ Some n → write_in s.more n ≡ Some kept → kept.end ≡ Some end
          → (more : Indexed) → AreMapped more → Lacks (write_in s.more) n (write_in more) → Lacks (owner_in s.more) end (owner_in more)
          → length more.by_number.entries < length s.more.by_number.entries
          → Gone s end n kept (record { alloc = s.alloc; first = first; second = second; more = more })
      gone_more n kept own at ended more mapped lacks free less =
          subst (λ (f : Slot). Gone s end n kept (record { alloc = s.alloc; first = f; second = second; more = more })) (sym than.1)
          (subst (λ (g : Slot). Gone s end n kept (record { alloc = s.alloc; first = s.first; second = g; more = more })) (sym than_too.1)
          (go_more s fit end than.0 than_too.0 n kept own at ended more mapped lacks free less))

      -- it is one of the maps'
      pub more_owner : IsSome (owner_of s end) → (n : ℕ) × (kept : KeptWrite) × (owner_in s.more end ≡ Some n)
          × (write_in s.more n ≡ Some kept) × (kept.end ≡ Some end)
      more_owner there =
          let o = found (owner_in s.more end) (subst IsSome owner_more there) in
          let k = fit.mapped.owner end o.0 o.1 in
          (o.0, k.0, o.1, k.1, k.2)

-- whichever write had that end
pub gone_kept : (s : Writes) (end n : ℕ) (kept : KeptWrite) (new : Writes) → Gone s end n kept new → (m : ℕ) (k : KeptWrite)
    → owner_of s end ≡ Some m → kept_of s m ≡ Some k → (k.end ≡ Some end) × Lacks (kept_of s) m (kept_of new)
gone_kept s end n kept new g m k own at =
    let same : n ≡ m = same_Some n m (sym g.owner ∙ own) in
    let is : kept ≡ k = same_Some kept k (sym g.was ∙ (ap (kept_of s) same ∙ at)) in
    (ap (λ (x : KeptWrite). x.end) (sym is) ∙ g.ended, subst (λ (x : ℕ). Lacks (kept_of s) x (kept_of new)) same g.lacks)
