-- What a line's words say after the lines before it: the tests that find it, turned round.
use Rattle.std.proofs.Common.{ℕ, ◌≡◌, inl, inr, List, length, Bool, false, cond, Option, Some, None}
use Rattle.std.proofs.Common.{Ok, codes, bytes_eq, refl, sym, ap, ◌∙◌, subst}
use Rattle.client_phases.specs.declared.rules.ReadMode.{ReadMode}
use Rattle.quorum.specs.Quorums.{Quorums}
use Rattle.world_steps.specs.Configs.{Config}
use Rattle.world_steps.specs.declared.step.Step.{Step}
use Rattle.world_steps.specs.declared.step.Step.TheVariants as step
use Rattle.script_runs.specs.declared.command.Command.{Command}
use Rattle.script_runs.specs.declared.command.Command.TheVariants as command
use Rattle.fault_script.specs.declared.parse_line.Last.{Last}
use Rattle.fault_script.specs.declared.parse_line.Last.TheVariants as last
use Rattle.fault_script.specs.declared.parse_line.ConfigSoFar.{ConfigSoFar}
use Rattle.fault_script.specs.declared.parse_line.Said.{Said}
use Rattle.fault_script.specs.declared.parse_line.Said.TheVariants.{Opens, Runs}
use Rattle.fault_script.specs.Words.{words, behind_three}
use Rattle.counted_devices.specs.Answers.{◌>>=◌}
use Rattle.fault_script.specs.Settings.{after_replicas, after_reads, after_votes, replicas_in, reads_in, votes_in}
use Rattle.fault_script.specs.Commands.{command_in}
use Rattle.fault_script.specs.LineMeanings.{reads_said, votes_set, votes_said, first_said, said_in}
use Rattle.fault_script.specs.Forms.{Demands, in_ranges, SpellsStep, Spells}
use Rattle.fault_script.specs.SettingForms.{MayVote, SaysVotes, SaysAfter, replicas, reads, votes, runs}
use Rattle.fault_script.proofs.Chains.{done, picked, mapped, mapped_there}
use Rattle.fault_script.proofs.ReadingBack.{word_is}
use Rattle.fault_script.proofs.FormsBack.{command_back, command_there}
use Rattle.fault_script.proofs.SettingsBack.{reads_back, reads_there, replicas_back, replicas_there, votes_back, votes_there}

abbrev bare : Config → Said
bare config = Opens (after_replicas config)

After : List ℕ → List ℕ → Option ConfigSoFar → Said → Type 0
After verb args before said = SaysAfter verb (words args) (behind_three args) before said

first_back : (verb args : List ℕ) (said : Said) → said_in None verb args ≡ Ok said → After verb args None said
unfolding said_in first_said After
first_back verb args said e =
    elim (picked (bytes_eq verb (codes "replicas")) (replicas_in (words args) >>= (λ config. done (bare config))) _ said e) [
      | inl w ↦
          let a = mapped (replicas_in (words args)) bare said w.1 in
          let P : Said → Type 0 = λ s. SaysAfter verb (words args) (behind_three args) None s in
          subst P a.2 (replicas a.0 (word_is verb (codes "replicas") w.0) (replicas_back (words args) a.0 a.1))
      | inr e2 ↦ absurd (cc)
    ]

reads_made : (verb args : List ℕ) (config : Config) (before : Last) (opened : ConfigSoFar) → verb ≡ codes "reads"
    → reads_said config before (words args) ≡ Ok opened
    → After verb args (Some (record { config = config; last = before })) (Opens opened)
unfolding reads_said After
reads_made verb args config last.Replicas opened is e =
    let a = mapped (reads_in (words args)) (after_reads config) opened e in
    let P : ConfigSoFar → Type 0 =
    λ o. SaysAfter verb (words args) (behind_three args) (Some (record { config = config; last = last.Replicas })) (Opens o) in
    subst P a.2 (reads (after_replicas config) a.0 is refl (reads_back (words args) a.0 a.1))
reads_made verb args config last.Reads opened is e = absurd (cc)
reads_made verb args config last.Other opened is e = absurd (cc)

voted_made : (verb args : List ℕ) (config : Config) (before : Last) (opened : ConfigSoFar) → verb ≡ codes "votes" → MayVote before
    → votes_set config (words args) ≡ Ok opened → After verb args (Some (record { config = config; last = before })) (Opens opened)
unfolding votes_set After
voted_made verb args config before opened is may e =
    let a = mapped (votes_in (length config.quorums.votes) (words args)) (after_votes config) opened e in
    let P : ConfigSoFar → Type 0 =
    λ o. SaysAfter verb (words args) (behind_three args) (Some (record { config = config; last = before })) (Opens o) in
    subst P a.2 (votes (record { config = config; last = before }) a.0 is may
    (votes_back (length config.quorums.votes) (words args) a.0 a.1))

votes_made : (verb args : List ℕ) (config : Config) (before : Last) (opened : ConfigSoFar) → verb ≡ codes "votes"
    → votes_said config before (words args) ≡ Ok opened
    → After verb args (Some (record { config = config; last = before })) (Opens opened)
unfolding votes_said
votes_made verb args config last.Replicas opened is e = voted_made verb args config last.Replicas opened is tt e
votes_made verb args config last.Reads opened is e = voted_made verb args config last.Reads opened is tt e
votes_made verb args config last.Other opened is e = absurd (cc)

later_back : (verb args : List ℕ) (o : ConfigSoFar) (said : Said) → said_in (Some o) verb args ≡ Ok said → After verb args (Some o) said
unfolding said_in After
later_back verb args o said e =
    let P : Said → Type 0 = λ s. SaysAfter verb (words args) (behind_three args) (Some o) s in
    elim (picked (bytes_eq verb (codes "replicas")) _ _ said e) [
      | inl w ↦ absurd (let f = w.1 in cc)
      | inr e2 ↦ elim (picked (bytes_eq verb (codes "reads")) (reads_said o.config o.last (words args) >>= (λ set. done (Opens set))) _
          said e2) [
            | inl w ↦
                let a = mapped (reads_said o.config o.last (words args)) Opens said w.1 in
                subst P a.2 (reads_made verb args o.config o.last a.0 (word_is verb (codes "reads") w.0) a.1)
            | inr e3 ↦ elim (picked (bytes_eq verb (codes "votes")) (votes_said o.config o.last (words args) >>= (λ set. done (Opens set)))
                _ said e3) [
                  | inl w ↦
                      let a = mapped (votes_said o.config o.last (words args)) Opens said w.1 in
                      subst P a.2 (votes_made verb args o.config o.last a.0 (word_is verb (codes "votes") w.0) a.1)
                  | inr e4 ↦
                      let a = mapped (command_in verb args) Runs said e4 in
                      subst P a.2 (runs o a.0 (command_back verb args a.0 a.1))
                ]
          ]
    ]

-- what is read is said by the words
pub said_back : (before : Option ConfigSoFar) (verb args : List ℕ) (said : Said) → said_in before verb args ≡ Ok said
    → SaysAfter verb (words args) (behind_three args) before said
unfolding After
said_back None verb args said e = first_back verb args said e
said_back (Some o) verb args said e = later_back verb args o said e

-- a first word that begins no line of the configuration
pub record IsPlain (verb : List ℕ) : Type 0 where
  pub no_replicas : bytes_eq verb (codes "replicas") ≡ false
  pub no_reads : bytes_eq verb (codes "reads") ≡ false
  pub no_votes : bytes_eq verb (codes "votes") ≡ false

plain_named : (verb name : List ℕ) → verb ≡ name → bytes_eq name (codes "replicas") ≡ false → bytes_eq name (codes "reads") ≡ false
    → bytes_eq name (codes "votes") ≡ false → IsPlain verb
plain_named verb name e a b c =
    let P : List ℕ → Type 0 = λ v. IsPlain v in
    subst P (sym e) (record { no_replicas = a; no_reads = b; no_votes = c })

step_plain : (demands : Demands) (verb : List ℕ) (ws : List (List ℕ)) (behind : List ℕ) (s : Step) → SpellsStep demands verb ws behind s
    → IsPlain verb
step_plain demands verb ws behind (step.Join n) h = plain_named verb (codes "join") h.0 refl refl refl
step_plain demands verb ws behind (step.Invoke client key action) h = plain_named verb (codes "invoke") h.0 refl refl refl
step_plain demands verb ws behind (step.Send m n) h = plain_named verb (codes "send") h.0 refl refl refl
step_plain demands verb ws behind (step.Deliver n) h = plain_named verb (codes "deliver") h.0 refl refl refl
step_plain demands verb ws behind (step.Lose n) h = plain_named verb (codes "lose") h.0 refl refl refl
step_plain demands verb ws behind (step.Repeat n) h = plain_named verb (codes "repeat") h.0 refl refl refl
step_plain demands verb ws behind (step.Respond n) h = plain_named verb (codes "respond") h.0 refl refl refl
step_plain demands verb ws behind (step.StopClient n) h = plain_named verb (codes "stop") h.0 refl refl refl
step_plain demands verb ws behind (step.StopReplica n) h = plain_named verb (codes "stop") h.0 refl refl refl
step_plain demands verb ws behind (step.StartReplica n) h = plain_named verb (codes "start") h.0 refl refl refl

pub command_plain : (demands : Demands) (verb : List ℕ) (ws : List (List ℕ)) (behind : List ℕ) (c : Command)
    → Spells demands verb ws behind c → IsPlain verb
command_plain demands verb ws behind (command.Step s) h = step_plain demands verb ws behind s h
command_plain demands verb ws behind (command.Finish n) h = plain_named verb (codes "finish") h.0 refl refl refl
command_plain demands verb ws behind (command.Random m n) h = plain_named verb (codes "random") h.0 refl refl refl

-- none of the three tests
passed_by : {A : Type 0} (a b c : Bool) (x y z w : A) → a ≡ false → b ≡ false → c ≡ false → cond a x (cond b y (cond c z w)) ≡ w
passed_by a b c x y z w p q r = rw (p, q, r) refl

voted_there : (args : List ℕ) (config : Config) (quorums : Quorums) → SaysVotes (length config.quorums.votes) (words args) quorums
    → votes_set config (words args) ≡ Ok (after_votes config quorums)
unfolding votes_set
voted_there args config quorums h =
    mapped_there (votes_in (length config.quorums.votes) (words args)) (after_votes config) quorums
    (votes_there (length config.quorums.votes) (words args) quorums h)

may_vote : (args : List ℕ) (config : Config) (before : Last) (opened : ConfigSoFar) → MayVote before → votes_set config (words args)
    ≡ Ok opened → votes_said config before (words args) ≡ Ok opened
unfolding votes_said
may_vote args config last.Replicas opened may e = e
may_vote args config last.Reads opened may e = e
may_vote args config last.Other opened may e = absurd may

reads_set : (args : List ℕ) (config : Config) (mode : ReadMode) → reads_in (words args) ≡ Ok mode
    → reads_said config last.Replicas (words args) ≡ Ok (after_reads config mode)
unfolding reads_said
reads_set args config mode e = mapped_there (reads_in (words args)) (after_reads config) mode e

-- what the words say is read
pub said_there : (before : Option ConfigSoFar) (verb args : List ℕ) (said : Said)
    → SaysAfter verb (words args) (behind_three args) before said → said_in before verb args ≡ Ok said
unfolding said_in first_said
said_there before verb args said (replicas config is h) =
    ap (λ v. said_in None v args) is ∙ mapped_there (replicas_in (words args)) bare config (replicas_there (words args) config h)
said_there before verb args said (reads old mode is first h) =
    ap (λ v. said_in (Some old) v args) is
    ∙ mapped_there (reads_said old.config old.last (words args)) Opens (after_reads old.config mode)
    (ap (λ l. reads_said old.config l (words args)) first ∙ reads_set args old.config mode (reads_there (words args) mode h))
said_there before verb args said (votes old quorums is may h) =
    ap (λ v. said_in (Some old) v args) is
    ∙ mapped_there (votes_said old.config old.last (words args)) Opens (after_votes old.config quorums)
    (may_vote args old.config old.last (after_votes old.config quorums) may (voted_there args old.config quorums h))
said_there before verb args said (runs opened c h) =
    let plain = command_plain in_ranges verb (words args) (behind_three args) c h in
    passed_by (bytes_eq verb (codes "replicas")) (bytes_eq verb (codes "reads")) (bytes_eq verb (codes "votes")) _ _ _
    (command_in verb args >>= (λ c. done (Runs c))) plain.no_replicas plain.no_reads plain.no_votes
    ∙ mapped_there (command_in verb args) Runs c (command_there verb args c h)
