-- Which command the words of a line say: the tests that find it, turned round.
use Rattle.std.proofs.Common.{ℕ, ◌≡◌, ◌<◌, ◌^◌, inl, inr, List, [], ◌∷◌, true, Option, Some, Result, Ok}
use Rattle.std.proofs.Common.{Err, codes, bytes_eq, refl, sym, ap, ◌∙◌, subst, arith}
use Rattle.tag.specs.declared.actions.Action.{Action}
use Rattle.tag.specs.declared.actions.Action.TheVariants.{Read, Write}
use Rattle.tag.specs.Names.{is_key, is_value}
use Rattle.world_steps.specs.declared.step.Step.{Step}
use Rattle.world_steps.specs.declared.step.Step.TheVariants as step
use Rattle.script_runs.specs.declared.command.Command.{Command}
use Rattle.script_runs.specs.declared.command.Command.TheVariants as command
use Rattle.fault_script.specs.declared.fault.LineFault.{LineFault}
use Rattle.fault_script.specs.declared.fault.LineFault.TheVariants.{UnknownCommand}
use Rattle.fault_script.specs.Words.{words, behind_word, behind_three}
use Rattle.counted_devices.specs.Answers.{◌>>=◌}
use Rattle.fault_script.specs.Says.{needed_word, needed_number, needed_text, nothing_more, one_number, within, client_of, key_of, value_of}
use Rattle.fault_script.specs.Commands.{client_in, replica_in, flight_in, action_in, invoke_in}
use Rattle.fault_script.specs.Commands.{send_in, stopped_in, stop_in, start_in, random_in}
use Rattle.fault_script.specs.Commands.{client_step_in, step_in, command_in}
use Rattle.fault_script.specs.Forms.{in_ranges, IsClientWord, IsFlightWord, IsReplicaWord, IsNumber}
use Rattle.fault_script.specs.Forms.{One, NameAndOne, Two, SaysCall, SaysStep, SaysCommand}
use Rattle.fault_script.proofs.WordLemmas.{words-behind}
use Rattle.fault_script.proofs.Chains.{after, done, inside, picked, mapped, mapped_there}
use Rattle.fault_script.proofs.ReadingBack.{text_back, word_is, range_back, range_there}
use Rattle.fault_script.proofs.ReadingBack.{number_back, number_there, number_in_range}
use Rattle.fault_script.proofs.ReadingBack.{nothing_back, word_back, Found, number_next}
use Rattle.fault_script.proofs.ReadingBack.{number_first, one_back, one_there}

-- what a client's name, a replica's number and a message's number are
abbrev IsClientName : List ℕ → ℕ → Type 0
IsClientName = IsClientWord in_ranges

abbrev IsReplicaNumber : List ℕ → ℕ → Type 0
IsReplicaNumber = IsReplicaWord in_ranges

abbrev IsFlightNumber : List ℕ → ℕ → Type 0
IsFlightNumber = IsFlightWord in_ranges

client_back : (ws : List (List ℕ)) (n : ℕ) → client_in ws ≡ Ok n → One IsClientName ws n
unfolding client_in
client_back ws n e = let a = after (one_number ws) _ n e in one_back 1 65535 ws a.0 n a.1 a.2

replica_back : (ws : List (List ℕ)) (n : ℕ) → replica_in ws ≡ Ok n → One IsReplicaNumber ws n
unfolding replica_in
replica_back ws n e = let a = after (one_number ws) _ n e in one_back 0 14 ws a.0 n a.1 a.2

flight_back : (ws : List (List ℕ)) (n : ℕ) → flight_in ws ≡ Ok n → One IsFlightNumber ws n
unfolding flight_in
flight_back ws n e = let a = after (one_number ws) _ n e in one_back 0 4294967295 ws a.0 n a.1 a.2

client_there : (ws : List (List ℕ)) (n : ℕ) → One IsClientName ws n → client_in ws ≡ Ok n
unfolding client_in
client_there ws n h = ap (λ r. r >>= within 1 65535) (one_there 1 65535 ws n (omega arith) h) ∙ number_in_range 1 65535 h.word n h.is

replica_there : (ws : List (List ℕ)) (n : ℕ) → One IsReplicaNumber ws n → replica_in ws ≡ Ok n
unfolding replica_in
replica_there ws n h = ap (λ r. r >>= within 0 14) (one_there 0 14 ws n (omega arith) h) ∙ number_in_range 0 14 h.word n h.is

flight_there : (ws : List (List ℕ)) (n : ℕ) → One IsFlightNumber ws n → flight_in ws ≡ Ok n
unfolding flight_in
flight_there ws n h = ap (λ r. r >>= within 0 4294967295) (one_there 0 4294967295 ws n (omega arith) h)
    ∙ number_in_range 0 4294967295 h.word n h.is

-- two numbers
unfoldable pub two_read : {X : Type 0} → ℕ → ℕ → ℕ → ℕ → (ℕ → ℕ → X) → List (List ℕ) → Result X LineFault
two_read l m l' m' f ws = needed_number ws >>=
    (λ a. one_number a.1 >>= (λ n. within l m a.0 >>= (λ x. within l' m' n >>= (λ y. done (f x y)))))

two_back : {X : Type 0} (l m l' m' : ℕ) (f : ℕ → ℕ → X) (ws : List (List ℕ)) (z : X) → two_read l m l' m' f ws ≡ Ok z → (x : ℕ) × (y : ℕ)
    × Two (IsNumber l m) (IsNumber l' m') ws x y × (f x y ≡ z)
unfolding two_read
two_back l m l' m' f ws z e =
    let a = after (needed_number ws) _ z e in
    let b = after (one_number a.0.1) _ z a.2 in
    let x = after (within l m a.0.0) _ z b.2 in
    let y = after (within l' m' b.0) _ z x.2 in
    let v = number_next ws a.0 a.1 in
    let last = one_back l' m' a.0.1 b.0 y.0 b.1 y.1 in (
      x.0,
      y.0,
      record {
        first = v.0;
        second = last.word;
        all = v.1 ∙ ap (λ (l : List (List ℕ)). v.0 ∷ l) last.all;
        is = number_back l m v.0 a.0.0 x.0 v.2 x.1;
        are = last.is;
      },
      inside (f x.0 y.0) z y.2,
    )

two_there : {X : Type 0} (l m l' m' : ℕ) (f : ℕ → ℕ → X) (ws : List (List ℕ)) (x y : ℕ) → m < 2 ^ 64 → m' < 2 ^ 64
    → Two (IsNumber l m) (IsNumber l' m') ws x y → two_read l m l' m' f ws ≡ Ok (f x y)
unfolding two_read
two_there l m l' m' f ws x y fits fits' h =
    ap (two_read l m l' m' f) h.all
    ∙ ap (λ r. r >>= (λ (a : Found). one_number a.1 >>= (λ n. within l m a.0 >>= (λ x. within l' m' n >>= (λ y. done (f x y))))))
    (number_first h.first (h.second ∷ []) (Some x) (number_there l m h.first x fits h.is))
    ∙ ap (λ r. r >>= (λ (n : Option ℕ). within l m (Some x) >>= (λ x. within l' m' n >>= (λ y. done (f x y)))))
    (one_there l' m' (h.second ∷ []) y fits' (record { word = h.second; all = refl; is = h.are }))
    ∙ ap (λ r. r >>= (λ x. within l' m' (Some y) >>= (λ y. done (f x y)))) (number_in_range l m h.first x h.is)
    ∙ ap (λ r. r >>= (λ y. done (f x y))) (number_in_range l' m' h.second y h.are)

-- what a call asks
abbrev pub Asks : List ℕ → List ℕ → Action → Type 0
Asks word behind Read = (word ≡ codes "read") × (words behind ≡ [])
Asks word behind (Write value) = (word ≡ codes "write") × (behind ≡ value) × (is_value value ≡ true)

pub action_back : (word behind : List ℕ) (action : Action) → action_in word behind ≡ Ok action → Asks word behind action
unfolding action_in
action_back word behind action e =
    let P : Action → Type 0 = λ a. Asks word behind a in
    elim (picked (bytes_eq word (codes "read")) (nothing_more (words behind) >>= (λ nothing. done Read)) _ action e) [
      | inl w ↦
          let a = after (nothing_more (words behind)) _ action w.1 in
          subst P (inside Read action a.2) (word_is word (codes "read") w.0, nothing_back (words behind) a.0 a.1)
      | inr e2 ↦ elim (picked (bytes_eq word (codes "write")) (value_of behind >>= (λ value. done (Write value))) (Err UnknownCommand)
          action e2) [
            | inl w ↦
                let a = mapped (value_of behind) Write action w.1 in
                let v = range_back (is_value behind) behind a.0 a.1 in
                subst P a.2 (word_is word (codes "write") w.0, v.1, subst (λ (t : List ℕ). is_value t ≡ true) v.1 v.0)
            | inr e3 ↦ absurd (cc)
          ]
    ]

says_invoke : (args : List (List ℕ)) (behind caller word key : List ℕ) (others : List (List ℕ)) (client : ℕ) (action : Action) → args
    ≡ caller ∷ word ∷ key ∷ others → words behind ≡ others → IsClientName caller client → is_key key ≡ true
    → Asks word behind action → SaysCall in_ranges args behind client key action
says_invoke args behind caller word key others client Read all same is named asks = record {
  caller = caller;
  all = all ∙ (λ i. caller ∷ asks.0 i ∷ key ∷ (sym same ∙ asks.1) i);
  is = is;
  named = named;
}
says_invoke args behind caller word key others client (Write value) all same is named asks = record {
  caller = caller;
  others = others;
  all = all ∙ (λ i. caller ∷ asks.0 i ∷ key ∷ others);
  is = is;
  named = named;
  written = asks.1;
  short = asks.2;
}

-- after three words stand the words after those
pub words-behind_three : (args a b d : List ℕ) (others : List (List ℕ)) → words args ≡ a ∷ b ∷ d ∷ others → words (behind_three args)
    ≡ others
words-behind_three args a b d others e =
    words-behind (behind_word (behind_word args)) d others
    (words-behind (behind_word args) b (d ∷ others) (words-behind args a (b ∷ d ∷ others) e))

invoke_back : (args : List ℕ) (s : Step) → invoke_in args ≡ Ok s → (client : ℕ) × (key : List ℕ) × (action : Action)
    × SaysCall in_ranges (words args) (behind_three args) client key action × (step.Invoke client key action ≡ s)
unfolding invoke_in
invoke_back args s e =
    let a = after (needed_number (words args)) _ s e in
    let b = after (needed_word a.0.1) _ s a.2 in
    let k = after (needed_word b.0.1) _ s b.2 in
    let t = after (action_in b.0.0 (behind_three args)) _ s k.2 in
    let n = after (client_of a.0.0) _ s t.2 in
    let x = after (key_of k.0.0) _ s n.2 in
    let v = number_next (words args) a.0 a.1 in
    let second = word_back a.0.1 b.0 b.1 in
    let last = word_back b.0.1 k.0 k.1 in
    let all : words args ≡ v.0 ∷ b.0.0 ∷ k.0.0 ∷ k.0.1 = v.1
    ∙ ap (λ (l : List (List ℕ)). v.0 ∷ l) (second ∙ ap (λ (l : List (List ℕ)). b.0.0 ∷ l) last) in
    let key = range_back (is_key k.0.0) k.0.0 x.0 x.1 in
    let P : List ℕ → Type 0 = λ l. words args ≡ v.0 ∷ b.0.0 ∷ l ∷ k.0.1 in (
      n.0,
      x.0,
      t.0,
      says_invoke (words args) (behind_three args) v.0 b.0.0 x.0 k.0.1 n.0 t.0 (subst P key.1 all)
          (words-behind_three args v.0 b.0.0 k.0.0 k.0.1 all) (number_back 1 65535 v.0 a.0.0 n.0 v.2 n.1)
          (subst (λ (l : List ℕ). is_key l ≡ true) key.1 key.0) (action_back b.0.0 (behind_three args) t.0 t.1),
      inside (step.Invoke n.0 x.0 t.0) s x.2,
    )

-- a step that one number says
one_step : (verb name : List ℕ) (ws : List (List ℕ)) (behind : List ℕ) (r : Result ℕ LineFault) (make : ℕ → Step) (Is : List ℕ → ℕ
    → Type 0) (s : Step) → bytes_eq verb name ≡ true → (r >>= (λ n. done (make n))) ≡ Ok s → ((n : ℕ) → r ≡ Ok n → One Is ws n)
    → ((n : ℕ) → (verb ≡ name) × One Is ws n → SaysStep verb ws behind (make n)) → SaysStep verb ws behind s
one_step verb name ws behind r make Is s test e back says =
    let a = mapped r make s e in
    let P : Step → Type 0 = λ s. SaysStep verb ws behind s in
    subst P a.2 (says a.0 (word_is verb name test, back a.0 a.1))

stop_back : (verb : List ℕ) (ws : List (List ℕ)) (behind : List ℕ) (s : Step) → verb ≡ codes "stop" → stop_in ws ≡ Ok s
    → SaysStep verb ws behind s
unfolding stop_in stopped_in
stop_back verb ws behind s is e =
    let k = after (needed_word ws) _ s e in
    let all = word_back ws k.0 k.1 in
    let P : Step → Type 0 = λ s. SaysStep verb ws behind s in
    elim (picked (bytes_eq k.0.0 (codes "client")) (client_in k.0.1 >>= (λ n. done (step.StopClient n))) _ s k.2) [
      | inl w ↦
          let a = mapped (client_in k.0.1) step.StopClient s w.1 in
          let one = client_back k.0.1 a.0 a.1 in
          let name = word_is k.0.0 (codes "client") w.0 in
          subst P a.2 (is, record { word = one.word; all = all ∙ (λ i. name i ∷ one.all i); is = one.is })
      | inr e2 ↦ elim (picked (bytes_eq k.0.0 (codes "replica")) (replica_in k.0.1 >>= (λ n. done (step.StopReplica n)))
          (Err UnknownCommand) s e2) [
            | inl w ↦
                let a = mapped (replica_in k.0.1) step.StopReplica s w.1 in
                let one = replica_back k.0.1 a.0 a.1 in
                let name = word_is k.0.0 (codes "replica") w.0 in
                subst P a.2 (is, record { word = one.word; all = all ∙ (λ i. name i ∷ one.all i); is = one.is })
            | inr e3 ↦ absurd (cc)
          ]
    ]

start_back : (verb : List ℕ) (ws : List (List ℕ)) (behind : List ℕ) (s : Step) → verb ≡ codes "start" → start_in ws ≡ Ok s
    → SaysStep verb ws behind s
unfolding start_in
start_back verb ws behind s is e =
    let k = after (needed_text (codes "replica") ws) _ s e in
    let a = mapped (replica_in k.0) step.StartReplica s k.2 in
    let one = replica_back k.0 a.0 a.1 in
    let P : Step → Type 0 = λ s. SaysStep verb ws behind s in
    subst P a.2 (
      is,
      record {
        word = one.word;
        all = text_back (codes "replica") ws k.0 k.1
            ∙ ap (λ (l : List (List ℕ)). codes "replica" ∷ l) one.all;
        is = one.is;
      },
    )

send_back : (verb : List ℕ) (ws : List (List ℕ)) (behind : List ℕ) (s : Step) → verb ≡ codes "send" → send_in ws ≡ Ok s
    → SaysStep verb ws behind s
unfolding send_in two_read
send_back verb ws behind s is e =
    let a = two_back 1 65535 0 14 step.Send ws s e in
    let P : Step → Type 0 = λ s. SaysStep verb ws behind s in
    subst P a.3 (is, a.2)

client_step_back : (verb : List ℕ) (ws : List (List ℕ)) (behind : List ℕ) (s : Step) → client_step_in verb ws ≡ Ok s
    → SaysStep verb ws behind s
unfolding client_step_in
client_step_back verb ws behind s e =
    elim (picked (bytes_eq verb (codes "join")) (client_in ws >>= (λ n. done (step.Join n))) _ s e) [
      | inl w ↦ one_step verb (codes "join") ws behind (client_in ws) step.Join IsClientName s w.0 w.1 (client_back ws)
          (λ n h. h)
      | inr e2 ↦ elim (picked (bytes_eq verb (codes "send")) (send_in ws) _ s e2) [
        | inl w ↦ send_back verb ws behind s (word_is verb (codes "send") w.0) w.1
        | inr e3 ↦ elim (picked (bytes_eq verb (codes "respond")) (client_in ws >>= (λ n. done (step.Respond n))) (Err UnknownCommand) s
            e3) [
              | inl w ↦ one_step verb (codes "respond") ws behind (client_in ws) step.Respond IsClientName s w.0 w.1
                  (client_back ws) (λ n h. h)
              | inr e4 ↦ absurd (cc)
            ]
      ]
    ]

step_back : (verb : List ℕ) (ws : List (List ℕ)) (behind : List ℕ) (s : Step) → step_in verb ws ≡ Ok s → SaysStep verb ws behind s
unfolding step_in
step_back verb ws behind s e =
    elim (picked (bytes_eq verb (codes "deliver")) (flight_in ws >>= (λ n. done (step.Deliver n))) _ s e) [
      | inl w ↦ one_step verb (codes "deliver") ws behind (flight_in ws) step.Deliver IsFlightNumber s w.0 w.1 (flight_back ws)
          (λ n h. h)
      | inr e2 ↦ elim (picked (bytes_eq verb (codes "lose")) (flight_in ws >>= (λ n. done (step.Lose n))) _ s e2) [
        | inl w ↦ one_step verb (codes "lose") ws behind (flight_in ws) step.Lose IsFlightNumber s w.0 w.1 (flight_back ws)
            (λ n h. h)
        | inr e3 ↦ elim (picked (bytes_eq verb (codes "repeat")) (flight_in ws >>= (λ n. done (step.Repeat n))) _ s e3) [
          | inl w ↦ one_step verb (codes "repeat") ws behind (flight_in ws) step.Repeat IsFlightNumber s w.0 w.1
              (flight_back ws) (λ n h. h)
          | inr e4 ↦ elim (picked (bytes_eq verb (codes "stop")) (stop_in ws) _ s e4) [
            | inl w ↦ stop_back verb ws behind s (word_is verb (codes "stop") w.0) w.1
            | inr e5 ↦ elim (picked (bytes_eq verb (codes "start")) (start_in ws) (client_step_in verb ws) s e5) [
              | inl w ↦ start_back verb ws behind s (word_is verb (codes "start") w.0) w.1
              | inr e6 ↦ client_step_back verb ws behind s e6
            ]
          ]
        ]
      ]
    ]

-- what is read as a command is said by its words
pub command_back : (verb args : List ℕ) (c : Command) → command_in verb args ≡ Ok c → SaysCommand verb (words args) (behind_three args) c
unfolding command_in random_in two_read
command_back verb args c e =
    let P : Command → Type 0 = λ c. SaysCommand verb (words args) (behind_three args) c in
    elim (picked (bytes_eq verb (codes "invoke")) (invoke_in args >>= (λ s. done (command.Step s))) _ c e) [
      | inl w ↦
          let a = mapped (invoke_in args) command.Step c w.1 in
          let i = invoke_back args a.0 a.1 in
          let Q : Step → Type 0 = λ s. SaysStep verb (words args) (behind_three args) s in
          subst P a.2 (subst Q i.4 (word_is verb (codes "invoke") w.0, i.3))
      | inr e2 ↦ elim (picked (bytes_eq verb (codes "finish")) (client_in (words args) >>= (λ n. done (command.Finish n))) _ c e2) [
        | inl w ↦
            let a = mapped (client_in (words args)) command.Finish c w.1 in
            subst P a.2 (word_is verb (codes "finish") w.0, client_back (words args) a.0 a.1)
        | inr e3 ↦ elim (picked (bytes_eq verb (codes "random")) (random_in (words args)) _ c e3) [
          | inl w ↦
              let a = two_back 0 18446744073709551615 0 1000000 command.Random (words args) c w.1 in
              subst P a.3 (word_is verb (codes "random") w.0, a.2)
          | inr e4 ↦
              let a = mapped (step_in verb (words args)) command.Step c e4 in
              subst P a.2 (step_back verb (words args) (behind_three args) a.0 a.1)
        ]
      ]
    ]

-- the way back: what words say is read
stepped : (r : Result Step LineFault) (s : Step) → r ≡ Ok s → (r >>= (λ s. done (command.Step s))) ≡ Ok (command.Step s)
stepped r s e = mapped_there r command.Step s e

client_alone : (name : List ℕ) (ws : List (List ℕ)) (n : ℕ) (h : NameAndOne name IsClientName ws n) → client_in (h.word ∷ []) ≡ Ok n
client_alone name ws n h = client_there (h.word ∷ []) n (record { word = h.word; all = refl; is = h.is })

replica_alone : (name : List ℕ) (ws : List (List ℕ)) (n : ℕ) (h : NameAndOne name IsReplicaNumber ws n) → replica_in (h.word ∷ []) ≡ Ok n
replica_alone name ws n h = replica_there (h.word ∷ []) n (record { word = h.word; all = refl; is = h.is })

stop_client_there : (ws : List (List ℕ)) (n : ℕ) → NameAndOne (codes "client") IsClientName ws n → stop_in ws ≡ Ok (step.StopClient n)
unfolding stop_in stopped_in needed_word
stop_client_there ws n h = ap stop_in h.all ∙ mapped_there (client_in (h.word ∷ [])) step.StopClient n (client_alone (codes "client") ws n h)

stop_replica_there : (ws : List (List ℕ)) (n : ℕ) → NameAndOne (codes "replica") IsReplicaNumber ws n → stop_in ws ≡ Ok (step.StopReplica n)
unfolding stop_in stopped_in needed_word
stop_replica_there ws n h = ap stop_in h.all ∙ mapped_there (replica_in (h.word ∷ [])) step.StopReplica n (replica_alone (codes "replica") ws n h)

start_there : (ws : List (List ℕ)) (n : ℕ) → NameAndOne (codes "replica") IsReplicaNumber ws n → start_in ws ≡ Ok (step.StartReplica n)
unfolding start_in needed_text needed_word
start_there ws n h = ap start_in h.all ∙ mapped_there (replica_in (h.word ∷ [])) step.StartReplica n (replica_alone (codes "replica") ws n h)

send_there : (ws : List (List ℕ)) (m n : ℕ) → Two IsClientName IsReplicaNumber ws m n → send_in ws
    ≡ Ok (step.Send m n)
unfolding send_in two_read
send_there ws m n h = two_there 1 65535 0 14 step.Send ws m n (omega arith) (omega arith) h

random_there : (ws : List (List ℕ)) (m n : ℕ) → Two (IsNumber 0 18446744073709551615) (IsNumber 0 1000000) ws m n → random_in ws
    ≡ Ok (command.Random m n)
unfolding random_in two_read
random_there ws m n h = two_there 0 18446744073709551615 0 1000000 command.Random ws m n (omega arith) (omega arith) h

pub read_asked : (behind : List ℕ) → words behind ≡ [] → action_in (codes "read") behind ≡ Ok Read
unfolding action_in nothing_more
read_asked behind none = ap (λ ws. nothing_more ws >>= (λ nothing. done Read)) none

write_asked : (behind value : List ℕ) → behind ≡ value → is_value value ≡ true → action_in (codes "write") behind ≡ Ok (Write value)
unfolding action_in
write_asked behind value e short =
    mapped_there (value_of behind) Write value (ap value_of e ∙ range_there (is_value value) value short)

-- the words of an invocation, and what stands after the key
unfoldable pub invoked : List (List ℕ) → List ℕ → Result Step LineFault
invoked ws behind = needed_number ws >>=
    (λ client. needed_word client.1 >>=
    (λ action. needed_word action.1 >>=
    (λ key. action_in action.0 behind >>=
    (λ asked. client_of client.0 >>= (λ name. key_of key.0 >>= (λ text. done (step.Invoke name text asked)))))))

invoked_there : (behind caller word key : List ℕ) (others : List (List ℕ)) (client : ℕ) (action : Action)
    → IsClientName caller client → is_key key ≡ true → action_in word behind ≡ Ok action
    → invoked (caller ∷ word ∷ key ∷ others) behind ≡ Ok (step.Invoke client key action)
unfolding invoked needed_word
invoked_there behind caller word key others client action is named asks =
    ap (λ r. r >>= (λ (client : Found).
    needed_word client.1 >>= (λ action.
    needed_word action.1 >>= (λ key.
    action_in action.0 behind >>=
    (λ asked. client_of client.0 >>= (λ name. key_of key.0 >>= (λ text. done (step.Invoke name text asked))))))))
    (number_first caller (word ∷ key ∷ others) (Some client) (number_there 1 65535 caller client (omega arith) is))
    ∙ ap (λ r. r >>= (λ asked. client_of (Some client) >>= (λ name. key_of key >>= (λ text. done (step.Invoke name text asked))))) asks
    ∙ ap (λ r. r >>= (λ name. key_of key >>= (λ text. done (step.Invoke name text action)))) (number_in_range 1 65535 caller client is)
    ∙ ap (λ r. r >>= (λ text. done (step.Invoke client text action))) (range_there (is_key key) key named)

invoke_there : (args : List ℕ) (client : ℕ) (key : List ℕ) (action : Action)
    → SaysCall in_ranges (words args) (behind_three args) client key action → invoke_in args ≡ Ok (step.Invoke client key action)
unfolding invoke_in invoked
invoke_there args client key Read h =
    ap (λ ws. invoked ws (behind_three args)) h.all
    ∙ invoked_there (behind_three args) h.caller (codes "read") key [] client Read h.is h.named
    (read_asked (behind_three args) (words-behind_three args h.caller (codes "read") key [] h.all))
invoke_there args client key (Write value) h =
    ap (λ ws. invoked ws (behind_three args)) h.all
    ∙ invoked_there (behind_three args) h.caller (codes "write") key h.others client (Write value) h.is h.named
    (write_asked (behind_three args) value h.written h.short)

-- a step that one number says is read
client_stepped : (args : List ℕ) (make : ℕ → Step) (n : ℕ) → One IsClientName (words args) n
    → ((client_in (words args) >>= (λ n. done (make n))) >>= (λ s. done (command.Step s))) ≡ Ok (command.Step (make n))
client_stepped args make n one =
    stepped (client_in (words args) >>= (λ n. done (make n))) (make n) (mapped_there (client_in (words args)) make n (client_there (words args) n one))

flight_stepped : (args : List ℕ) (make : ℕ → Step) (n : ℕ) → One IsFlightNumber (words args) n
    → ((flight_in (words args) >>= (λ n. done (make n))) >>= (λ s. done (command.Step s))) ≡ Ok (command.Step (make n))
flight_stepped args make n one =
    stepped (flight_in (words args) >>= (λ n. done (make n))) (make n) (mapped_there (flight_in (words args)) make n (flight_there (words args) n one))

verb_is : (verb name args : List ℕ) → verb ≡ name → command_in verb args ≡ command_in name args
verb_is verb name args is = ap (λ v. command_in v args) is

step_there : (verb args : List ℕ) (s : Step) → SaysStep verb (words args) (behind_three args) s → command_in verb args ≡ Ok (command.Step s)
unfolding command_in step_in client_step_in
step_there verb args (step.Join n) h = verb_is verb (codes "join") args h.0 ∙ client_stepped args step.Join n h.1
step_there verb args (step.Invoke client key action) h =
    verb_is verb (codes "invoke") args h.0
    ∙ stepped (invoke_in args) (step.Invoke client key action) (invoke_there args client key action h.1)
step_there verb args (step.Send m n) h =
    verb_is verb (codes "send") args h.0 ∙ stepped (send_in (words args)) (step.Send m n) (send_there (words args) m n h.1)
step_there verb args (step.Deliver n) h = verb_is verb (codes "deliver") args h.0 ∙ flight_stepped args step.Deliver n h.1
step_there verb args (step.Lose n) h = verb_is verb (codes "lose") args h.0 ∙ flight_stepped args step.Lose n h.1
step_there verb args (step.Repeat n) h = verb_is verb (codes "repeat") args h.0 ∙ flight_stepped args step.Repeat n h.1
step_there verb args (step.Respond n) h = verb_is verb (codes "respond") args h.0 ∙ client_stepped args step.Respond n h.1
step_there verb args (step.StopClient n) h =
    verb_is verb (codes "stop") args h.0 ∙ stepped (stop_in (words args)) (step.StopClient n) (stop_client_there (words args) n h.1)
step_there verb args (step.StopReplica n) h =
    verb_is verb (codes "stop") args h.0 ∙ stepped (stop_in (words args)) (step.StopReplica n) (stop_replica_there (words args) n h.1)
step_there verb args (step.StartReplica n) h =
    verb_is verb (codes "start") args h.0 ∙ stepped (start_in (words args)) (step.StartReplica n) (start_there (words args) n h.1)

-- what words say as a command is read
pub command_there : (verb args : List ℕ) (c : Command) → SaysCommand verb (words args) (behind_three args) c → command_in verb args ≡ Ok c
unfolding command_in
command_there verb args (command.Step s) h = step_there verb args s h
command_there verb args (command.Finish n) h =
    ap (λ v. command_in v args) h.0 ∙ mapped_there (client_in (words args)) command.Finish n (client_there (words args) n h.1)
command_there verb args (command.Random m n) h =
    ap (λ v. command_in v args) h.0 ∙ random_there (words args) m n h.1
