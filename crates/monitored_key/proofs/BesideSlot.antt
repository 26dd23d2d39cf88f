-- The same of a slot that may be empty.
use Rattle.std.proofs.Common.{ℕ, ◌≡◌, List, ◌∷◌, Option, Some, None, IfSome, sym, subst}
use Rattle.kept_writers.specs.declared.readable.Candidates.{Candidates}
use Rattle.kept_zones.specs.Overwriting.{Known}
use Rattle.key_monitor.specs.KeptWrites.{HasNoneFresh, IsFreshBy, IsStaleAt, KeptWrite}
use Rattle.monitored_key.specs.declared.stale.Stale.{Stale}
use Rattle.monitored_key.specs.Maps.{entry_at}
use Rattle.monitored_key.specs.Readable.{AreReadable, AreStale, with_candidate, with_stale}
use Rattle.monitored_key.specs.Slots.{put_before}
use Rattle.monitored_key.proofs.Beside.{added, passed_over, stale_more}

module _ (known : Known) (begin : ℕ) (value : List ℕ) (slot : Option (ℕ × KeptWrite)) (n : ℕ) (w : KeptWrite) (is : slot ≡ Some (n, w))
    (es : List (ℕ × KeptWrite)) (free : IfSome slot (λ x. entry_at es x.0 ≡ None)) where
  free_here : entry_at es n ≡ None
  free_here = subst (λ (o : Option (ℕ × KeptWrite)). IfSome o (λ x. entry_at es x.0 ≡ None)) is free

  pub slot_over : (w.value ≡ value → IsStaleAt known begin w) → (c : Candidates) → AreReadable known (entry_at es) begin value c
      → AreReadable known (entry_at (put_before slot es)) begin value c
  slot_over over c h = subst (λ (o : Option (ℕ × KeptWrite)). AreReadable known (entry_at (put_before o es)) begin value c) (sym is)
      (passed_over known begin value (n, w) es free_here over c h)

  pub slot_added : w.value ≡ value → IsFreshBy known begin w.end → (c d : Candidates) → d ≡ with_candidate n c
      → AreReadable known (entry_at es) begin value c → AreReadable known (entry_at (put_before slot es)) begin value d
  slot_added same fresh c d e h =
      subst (λ (o : Option (ℕ × KeptWrite)). AreReadable known (entry_at (put_before o es)) begin value d) (sym is)
      (subst (λ (x : Candidates). AreReadable known (entry_at ((n, w) ∷ es)) begin value x) (sym e)
      (added known begin value (n, w) es free_here same fresh c h))

  pub slot_stale : w.value ≡ value → HasNoneFresh known (entry_at (put_before slot es)) begin value → (end : ℕ) → w.end ≡ Some end
      → (c d : Stale) → d ≡ with_stale end n c → AreStale known (entry_at es) begin value c
      → AreStale known (entry_at (put_before slot es)) begin value d
  slot_stale same none end ended c d e h =
      let all = subst (λ (o : Option (ℕ × KeptWrite)). HasNoneFresh known (entry_at (put_before o es)) begin value) is none in
      subst (λ (o : Option (ℕ × KeptWrite)). AreStale known (entry_at (put_before o es)) begin value d) (sym is)
      (subst (λ (x : Stale). AreStale known (entry_at ((n, w) ∷ es)) begin value x) (sym e)
      (stale_more known begin value (n, w) es free_here same all end ended c h))
