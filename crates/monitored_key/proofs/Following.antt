-- What the changes of what is known mean for the calls.
use Rattle.std.proofs.Common.{ℕ, ◌≡◌, ◌<◌, ◌+◌, inl, inr, List, Option, Some, None, IsSome, max, ap, sym, subst, ◌∙◌, refl}
use Rattle.std.specs.List.{Contains}
use Rattle.recorder.specs.declared.part.Call.{Call}
use Rattle.recorder.specs.Sound.{IsWrite}
use Rattle.kept_families.specs.Continued.{AreOpenIn}
use Rattle.kept_zones.specs.Overwriting.{HasZone, Known, last_of}
use Rattle.key_monitor.specs.Follows.{Follows, FollowsByEntry, FollowsKept, KeyState}
use Rattle.key_monitor.specs.Judged.{AnswersCall}
use Rattle.key_monitor.specs.KeptWrites.{HasKept, HasNoneFresh, IsOneFresh, KeptWrite}
use Rattle.key_monitor.specs.Pending.{HasOpen, LacksOpen}
use Rattle.key_monitor.specs.Shown.{IsFirstShow, IsInTime, first_show}
use Rattle.key_monitor.proofs.Following.{ended_write_ends, first_read, forgotten_write_ends, given_up, later_read}
use Rattle.key_monitor.proofs.Following.{read_begins, read_of_nothing, refused_read, undecided_read, write_begins, write_ends}
use Rattle.key_monitor.proofs.Showing.{late_read}
use Rattle.monitored_key.specs.declared.judged.Refusal.{Refusal}
use Rattle.monitored_key.specs.declared.judged.Judged.TheVariants.{Passes, Undecided, Refused}
use Rattle.monitored_key.specs.Followed.{FollowsRead, FollowsReadBegun}
use Rattle.monitored_key.specs.Followed.{FollowsWithout, FollowsWriteBegun, JudgesRead}
use Rattle.monitored_key.specs.Maps.{Lacks, Sets}
use Rattle.monitored_key.proofs.Indexing.{unended, with_end}
use Rattle.monitored_key.proofs.Rows.{lacks_open}

-- the state with those parts
abbrev pub state : Known → (ℕ → Option KeptWrite) → (ℕ → Option ℕ) → Option ℕ → KeyState
state known writes opens first = record { known = known; writes = writes; opens = opens; first = first }

-- what a pass makes of a state that follows calls by a row at the place
abbrev pub Passed : KeyState → ℕ → KeyState → Type 0
Passed mid place new = (part : List Call) (source : ℕ → Option ℕ) → Follows part source place mid → FollowsKept part source place new

has_open : (opens : ℕ → Option ℕ) (place n : ℕ) (new : ℕ → Option ℕ) → Sets opens place n new → HasOpen opens place n new
has_open opens place n new s = record { here = s.here; others = s.others }

has_kept : (writes : ℕ → Option KeptWrite) (n : ℕ) (kept : KeptWrite) (new : ℕ → Option KeptWrite) → Sets writes n kept new
    → HasKept writes n kept new
has_kept writes n kept new s = record { here = s.here; others = s.others }

module _ (known : Known) (writes : ℕ → Option KeptWrite) (opens : ℕ → Option ℕ) (first : Option ℕ) where
  abbrev old : KeyState
  old = state known writes opens first

  pub follows_read_begun : (n place : ℕ) (opens' : ℕ → Option ℕ) → Sets opens place n opens'
      → FollowsReadBegun old (state known writes opens' first) place
  follows_read_begun n place opens' s = λ before after source row call f b left reads.
      read_begins before after source row place call old f b left reads n opens' (has_open opens place n opens' s)

  pub follows_write_begun : (n place : ℕ) (value : List ℕ) (writes' : ℕ → Option KeptWrite) → Sets writes n (unended value place) writes'
      → FollowsWriteBegun old (state known writes' opens first) n value place
  follows_write_begun n place value writes' s = λ before after source row call f b left number wrote.
      write_begins before after source row place call old f b left value wrote writes'
      (subst (λ (m : ℕ). HasKept writes m (unended value place) writes') (sym number) (has_kept writes n (unended value place) writes' s))

  pub follows_without : (begin next : ℕ) (opens' : ℕ → Option ℕ) → Lacks opens begin opens' → (new : KeyState)
      → ((part : List Call) (source : ℕ → Option ℕ) (row : ℕ) → row + 1 ≡ next → Follows part source row (state known writes opens' first)
      → FollowsKept part source row new) → FollowsWithout old new begin next
  follows_without begin next opens' l new pass = λ before after source row read is f leaves began.
      pass after source row is (given_up before after source row read old f.follows leaves opens'
      (subst (λ (b : ℕ). LacksOpen opens b opens') (sym began) (lacks_open opens begin opens' l)))

  -- ---- a write is answered

  module _ (before after : List Call) (source : ℕ → Option ℕ) (row place n : ℕ) (call : Call) (f : FollowsKept before source row old)
      (a : AnswersCall row place before after call) (left : AreOpenIn row before after) (is : IsWrite call) (number : call.op.0 ≡ n) where
    -- the write as the part before has it
    write_before : (w : Call) × Contains before w × (w.op ≡ call.op) × IsWrite w
    write_before =
        let s = a.goes.continues.back call a.only.recorded (inl (is, a.only.began)) in
        (s.now, s.recorded, sym s.same.number, (is.0, sym s.same.action ∙ is.1))

    number_before : write_before.0.op.0 ≡ n
    number_before = ap (λ o. o.0) write_before.2 ∙ number

    pub follows_first_end : (kept : KeptWrite) → writes n ≡ Some kept → kept.end ≡ None → (known' : Known)
        → HasZone known.zones place kept.begin known'.zones → known'.floor ≡ known.floor → (writes' : ℕ → Option KeptWrite)
        → Sets writes n (with_end kept place) writes' → Follows after source place (state known' writes' opens (first_show first place))
    follows_first_end kept at none known' zone floor writes' s =
        let w = write_before in
        write_ends before after source row place call w.0 old f.follows a left is w.1 w.2 w.3 kept (ap writes number_before ∙ at) none
        known' zone floor writes'
        (subst (λ (m : ℕ). HasKept writes m (with_end kept place) writes') (sym number_before) (has_kept writes n (with_end kept place)
        writes' s))

    pub follows_other_end : ((kept : KeptWrite) → writes n ≡ Some kept → IsSome kept.end)
        → Follows after source place (state known writes opens (first_show first place))
    follows_other_end ended = by (writes n) refl
      where
        by_end : (kept : KeptWrite) (o : Option ℕ) → writes n ≡ Some kept → kept.end ≡ o → IsSome o
            → Follows after source place (state known writes opens (first_show first place))
        by_end kept None at e some = absurd cc
        by_end kept (Some end) at e some =
            let w = write_before in
            ended_write_ends before after source row place call w.0 old f.follows a left is w.1 w.2 w.3 kept end
            (ap writes number_before ∙ at) e

        by : (o : Option KeptWrite) → writes n ≡ o → Follows after source place (state known writes opens (first_show first place))
        by None e =
            let w = write_before in
            forgotten_write_ends before after source row place call w.0 old f.follows a left is w.1 w.2 w.3 (ap writes number_before ∙ e)
        by (Some kept) e = by_end kept kept.end e refl (ended kept e)

  -- ---- a read is answered

  entry_of : (after : List Call) (source : ℕ → Option ℕ) (row place : ℕ) (read : Call) (n : ℕ) (mid new : KeyState) → Passed mid place new
      → FollowsByEntry after source row place read n mid → FollowsRead after source row place read new
  entry_of after source row place read n mid new pass e = record {
    later = e.later;
    extends = e.extends;
    follows = pass after e.later e.follows;
    reads = inr (e.write, e.reads);
  }

  module _ (begin place n : ℕ) (kept : KeptWrite) (one : IsOneFresh known writes begin n kept) (opens' : ℕ → Option ℕ)
      (l : Lacks opens begin opens') (new : KeyState) where
    pub judges_first : kept.end ≡ None → (known' : Known) → HasZone known.zones place (max kept.begin begin) known'.zones
        → known'.floor ≡ known.floor → (writes' : ℕ → Option KeptWrite) → Sets writes n (with_end kept place) writes'
        → Passed (state known' writes' opens' (first_show first place)) place new
        → JudgesRead old new begin (Some kept.value) place Passes
    judges_first none known' zone floor writes' s pass = λ before after source row read f a left began answered.
        entry_of after source row place read n (state known' writes' opens' (first_show first place)) new pass
        (first_read before after source row place read old f a left opens'
        (subst (λ (b : ℕ). LacksOpen opens b opens') (sym began) (lacks_open opens begin opens' l)) n kept answered
        (subst (λ (b : ℕ). IsOneFresh known writes b n kept) (sym began) one) none known'
        (subst (λ (b : ℕ). HasZone known.zones place (max kept.begin b) known'.zones) (sym began) zone) floor writes'
        (has_kept writes n (with_end kept place) writes' s))

    pub judges_later : (end last : ℕ) → kept.end ≡ Some end → last_of known.zones end ≡ Some last → (known' : Known)
        → HasZone known.zones end (max last begin) known'.zones → known'.floor ≡ known.floor
        → Passed (state known' writes opens' (first_show first place)) place new
        → JudgesRead old new begin (Some kept.value) place Passes
    judges_later end last ended at known' zone floor pass = λ before after source row read f a left began answered.
        entry_of after source row place read n (state known' writes opens' (first_show first place)) new pass
        (later_read before after source row place read old f a left opens'
        (subst (λ (b : ℕ). LacksOpen opens b opens') (sym began) (lacks_open opens begin opens' l)) n kept answered
        (subst (λ (b : ℕ). IsOneFresh known writes b n kept) (sym began) one) end last ended at known'
        (subst (λ (b : ℕ). HasZone known.zones end (max last b) known'.zones) (sym began) zone) floor)

  module _ (begin place : ℕ) (opens' : ℕ → Option ℕ) (l : Lacks opens begin opens') (new : KeyState) where
    pub judges_undecided : Passed (state known writes opens' (first_show first place)) place new → (value : List ℕ) (one two : ℕ)
        → JudgesRead old new begin (Some value) place (Undecided one two)
    judges_undecided pass value one two = λ before after source row read f a left began answered.
        pass after source (undecided_read before after source row place read old f a left opens'
        (subst (λ (b : ℕ). LacksOpen opens b opens') (sym began) (lacks_open opens begin opens' l)) value answered)

    pub judges_nothing : Passed (state known writes opens' first) place new → IsInTime first begin
        → JudgesRead old new begin None place Passes
    judges_nothing pass time = λ before after source row read f a left began answered. record {
      later = source;
      extends = record { grows = λ m target at. at; fresh = λ r target there by at. at };
      follows = pass after source (read_of_nothing before after source row place read old f a left opens'
          (subst (λ (b : ℕ). LacksOpen opens b opens') (sym began) (lacks_open opens begin opens' l)) answered
          (subst (λ (b : ℕ). IsInTime first b) (sym began) time));
      reads = inl answered;
    }

  pub judges_none : (begin place : ℕ) (value : List ℕ) (refusal : Refusal) (new : KeyState) → HasNoneFresh known writes begin value
      → JudgesRead old new begin (Some value) place (Refused refusal)
  judges_none begin place value refusal new none = λ before after source row read f a left began answered.
      refused_read before after source row place read value old f a answered
      (subst (λ (b : ℕ). HasNoneFresh known writes b value) (sym began) none)

  pub judges_late : (begin place at : ℕ) (refusal : Refusal) (new : KeyState) → first ≡ Some at → at < begin
      → JudgesRead old new begin None place (Refused refusal)
  judges_late begin place at refusal new is less = λ before after source row read f a left began answered.
      let show : IsFirstShow before (Some at) = subst (IsFirstShow before) is f.follows.show in
      late_read before after row place f.follows.judged.last read a answered at show.0 (subst (λ (b : ℕ). at < b) (sym began) less)
