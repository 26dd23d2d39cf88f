-- How the writing of a text goes on from what went out of it before.
use Rattle.std.proofs.Common.{◌≡◌, ℕ, List, [], Result, Ok, Err, Option, sym, ◌∙◌, subst, append-nil}
use Rattle.std.specs.Prelude.{OnOk, OnErr, IfErr, IsErrAnd}
use Rattle.std.specs.Io.KnownBytes.{Appends}
use Rattle.counted_devices.specs.declared.write_fault.WriteFault.{WriteFault}
use Rattle.counted_devices.specs.declared.write_fault.WriteFault.TheVariants as fault
use Rattle.counted_devices.specs.DeviceStates.{states}
use Rattle.counted_devices.proofs.Leaving.{AppendsPrefix-more, AppendsPrefix-nothing, Leaves-more, Leaves-none}
use Rattle.counted_devices.specs.Sendings.{AppendsPrefix, FailsBy, FailsByDevice, HasFailedBy, Leaves, Sends, SendsBut, SendsStart}
use Rattle.file_format.specs.Writings.{FailsWriting, Writes, WritesBut}

-- nothing of the rest waits any more
Leaves-whole : (a b c : Option (List ℕ)) (text waiting : List ℕ) → Leaves a b text waiting → Appends b c waiting → Appends a c text
Leaves-whole a b c text waiting left sent =
    let P : List ℕ → Type 0 = λ rest. Leaves a b text rest in
    let all = Leaves-more a b c text waiting [] [] (subst P (sym (append-nil waiting)) left) (Leaves-none b c waiting sent) in
    subst (λ (s : List ℕ). Appends a c s) (sym (all.whole ∙ append-nil all.out)) all.sent

AppendsPrefix-waiting : (a b c : Option (List ℕ)) (text waiting : List ℕ) → Leaves a b text waiting → AppendsPrefix b c waiting
    → AppendsPrefix a c text
AppendsPrefix-waiting a b c text waiting left begun =
    let P : List ℕ → Type 0 = λ rest. Leaves a b text rest in
    AppendsPrefix-more a b c text waiting [] (subst P (sym (append-nil waiting)) left) begun

FailsBy-before : {W : Type 0} (failures : W → ℕ) (old mid new : W) (why : WriteFault) → failures mid ≡ failures old
    → FailsBy failures mid new why → FailsBy failures old new why
FailsBy-before failures old mid new why same h = subst (λ (n : ℕ). HasFailedBy why n (failures new)) same h

module _ {W T : Type 0} (contents : W → Option (List ℕ)) (failures : W → ℕ) where
  -- what goes out as it is
  pub writes_but : (r : Result T WriteFault) (old new : W) (text rest : List ℕ) → OnOk r (SendsBut contents old new text rest)
      → OnOk r (failures new ≡ failures old) → OnOk r (WritesBut (states contents failures old new) text rest)
  writes_but (Ok x) old new text rest sent counted = record { sent = sent; counted = counted }
  writes_but (Err e) old new text rest sent counted = tt

  pub breaks_off : (r : Result T WriteFault) (old new : W) (text : List ℕ) → OnErr r (SendsStart contents old new text)
      → IfErr r (FailsBy failures old new) → IfErr r (FailsWriting (states contents failures old new) text)
  breaks_off (Ok x) old new text begun device = tt
  breaks_off (Err e) old new text begun device = record { begun = begun; device = device }

  -- nothing went out before memory ran out
  pub breaks_at_once : (r : Result T WriteFault) (old : W) (text : List ℕ) → IsErrAnd r (λ e. e ≡ fault.Memory)
      → IfErr r (FailsWriting (states contents failures old old) text)
  breaks_at_once (Ok x) old text h = absurd h
  breaks_at_once (Err e) old text h =
      record {
        begun = AppendsPrefix-nothing (contents old) text;
        device =
            subst (λ (why : WriteFault). HasFailedBy why (failures old) (failures old)) (sym h) tt;
      }

  module _ (old mid new : W) (text : List ℕ) (same : failures mid ≡ failures old) where
    -- what breaks off after what went out
    pub breaks_behind : (r : Result T WriteFault) (front : List ℕ)
        → (AppendsPrefix (contents mid) (contents new) front → AppendsPrefix (contents old) (contents new) text)
        → IfErr r (FailsWriting (states contents failures mid new) front) → IfErr r (FailsWriting (states contents failures old new) text)
    breaks_behind (Ok x) front behind h = tt
    breaks_behind (Err e) front behind h = record { begun = behind h.begun; device = FailsBy-before failures old mid new e same h.device }

    -- the same of a fault that is handed on
    pub breaks_with : (r : Result T WriteFault) (front : List ℕ) (why : WriteFault)
        → (AppendsPrefix (contents mid) (contents new) front → AppendsPrefix (contents old) (contents new) text)
        → IsErrAnd r (λ e. e ≡ why) → FailsWriting (states contents failures mid new) front why
        → IfErr r (FailsWriting (states contents failures old new) text)
    breaks_with (Ok x) front why behind is h = tt
    breaks_with (Err e) front why behind is h =
        record {
          begun = behind h.begun;
          device =
              subst (λ (f : WriteFault). FailsBy failures old new f) (sym is) (FailsBy-before failures old mid new why same h.device);
        }

    -- what waits after what went out
    pub writes_behind : (r : Result T WriteFault) (front rest before : List ℕ)
        → (Leaves (contents mid) (contents new) front rest → Leaves (contents old) (contents new) text before)
        → OnOk r (WritesBut (states contents failures mid new) front rest)
        → OnOk r (WritesBut (states contents failures old new) text before)
    writes_behind (Ok x) front rest before behind h = record { sent = behind h.sent; counted = h.counted ∙ same }
    writes_behind (Err e) front rest before behind h = tt

    -- all that waits goes out
    writes_last : (r : Result T WriteFault) (waiting : List ℕ) → Leaves (contents old) (contents mid) text waiting
        → OnOk r (Sends contents mid new waiting) → OnOk r (failures new ≡ failures mid)
        → OnOk r (Writes (states contents failures old new) text)
    writes_last (Ok x) waiting left sent counted =
        record { sent = Leaves-whole (contents old) (contents mid) (contents new) text waiting left sent; counted = counted ∙ same }
    writes_last (Err e) waiting left sent counted = tt

    breaks_last : (r : Result T WriteFault) (waiting : List ℕ) → Leaves (contents old) (contents mid) text waiting
        → OnErr r (SendsStart contents mid new waiting) → IfErr r (FailsByDevice failures mid new)
        → IfErr r (FailsWriting (states contents failures old new) text)
    breaks_last (Ok x) waiting left begun device = tt
    breaks_last (Err e) waiting left begun device = record {
      begun = AppendsPrefix-waiting (contents old) (contents mid) (contents new) text waiting left begun;
      device = FailsBy-before failures old mid new e same
          (subst (λ (why : WriteFault). FailsBy failures mid new why) (sym device.0) device.1);
    }

    -- what still waits goes out, or a beginning of it
    pub ended : (r : Result T WriteFault) (behind waiting : List ℕ) → Leaves (contents old) (contents mid) text behind
        → behind ≡ waiting → OnOk r (Sends contents mid new waiting) → OnOk r (failures new ≡ failures mid)
        → OnErr r (SendsStart contents mid new waiting) → IfErr r (FailsByDevice failures mid new)
        → OnOk r (Writes (states contents failures old new) text) × IfErr r (FailsWriting (states contents failures old new) text)
    ended r behind waiting left is sent counted begun device =
        let P : List ℕ → Type 0 = λ rest. Leaves (contents old) (contents mid) text rest in
        let waits = subst P is left in
        (writes_last r waiting waits sent counted, breaks_last r waiting waits begun device)
