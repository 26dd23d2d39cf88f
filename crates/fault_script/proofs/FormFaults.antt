-- Which fault a command has: none of a form is unknown, one of a form is out of range.
use Rattle.std.proofs.Common.{ℕ, ◌≡◌, ◌↔◌, ◌⊎◌, ◌&&◌, inl, inr, List, [], ◌∷◌, Bool, true, false}
use Rattle.std.proofs.Common.{cond, Option, Some, None, Result, Ok, Err, codes, bytes_eq, nat_le}
use Rattle.std.proofs.Common.{refl, sym, ap, ◌∙◌}
use Rattle.tag.specs.declared.actions.Action.{Action}
use Rattle.tag.specs.declared.actions.Action.TheVariants.{Read, Write}
use Rattle.tag.specs.Names.{is_key, is_value}
use Rattle.world_steps.specs.declared.step.Step.{Step}
use Rattle.world_steps.specs.declared.step.Step.TheVariants as step
use Rattle.script_runs.specs.declared.command.Command.{Command}
use Rattle.script_runs.specs.declared.command.Command.TheVariants as command
use Rattle.fault_script.specs.declared.fault.LineFault.{LineFault}
use Rattle.fault_script.specs.declared.fault.LineFault.TheVariants.{UnknownCommand, Range}
use Rattle.fault_script.specs.Words.{words, behind_three, is_numeral, decimal_value, u64_of, number_of}
use Rattle.counted_devices.specs.Answers.{◌>>=◌}
use Rattle.fault_script.specs.Says.{needed_word, needed_number, needed_text, nothing_more}
use Rattle.fault_script.specs.Says.{one_number, in_range, within, client_of, key_of, value_of}
use Rattle.fault_script.specs.Commands.{client_in, replica_in, flight_in, action_in, invoke_in}
use Rattle.fault_script.specs.Commands.{send_in, stopped_in, stop_in, start_in, random_in}
use Rattle.fault_script.specs.Commands.{client_step_in, step_in, command_in}
use Rattle.fault_script.specs.Forms.{IsNumber, IsNumeralOf, in_ranges, of_any_size, One, NameAndOne}
use Rattle.fault_script.specs.Forms.{Two, SaysCall, SpellsStep, Spells, HasForm}
use Rattle.fault_script.proofs.Chains.{after, done}
use Rattle.fault_script.proofs.ReadingBack.{word_is, text_back, nothing_back, word_back, Found, number_next, number_first, number_by}
use Rattle.fault_script.proofs.FormsBack.{two_read, invoked, words-behind_three, read_asked, Asks, action_back, command_back}

-- which of two steps failed
pub err_after : {A B : Type 0} (r : Result A LineFault) (f : A → Result B LineFault) (e : LineFault) → (r >>= f) ≡ Err e → (r ≡ Err e)
    ⊎ ((x : A) × (r ≡ Ok x) × (f x ≡ Err e))
err_after (Ok x) f e h = inr (x, refl, h)
err_after (Err g) f e h = inl (let same : g ≡ e = cc in ap (λ (k : LineFault). Err k) same)

err_mapped : {A B : Type 0} (r : Result A LineFault) (f : A → B) (e : LineFault) → (r >>= (λ x. done (f x))) ≡ Err e → r ≡ Err e
err_mapped (Ok x) f e h = absurd (cc)
err_mapped (Err g) f e h = let same : g ≡ e = cc in ap (λ (k : LineFault). Err k) same

err_picked : {A : Type 0} (b : Bool) (x y : Result A LineFault) (e : LineFault) → cond b x y ≡ Err e → ((b ≡ true) × (x ≡ Err e))
    ⊎ (y ≡ Err e)
err_picked true x y e h = inl (refl, h)
err_picked false x y e h = inr h

word_err : (ws : List (List ℕ)) (e : LineFault) → needed_word ws ≡ Err e → e ≡ UnknownCommand
unfolding needed_word
word_err [] e h = cc
word_err (w ∷ ws) e h = absurd (cc)

pub nothing_err : (ws : List (List ℕ)) (e : LineFault) → nothing_more ws ≡ Err e → e ≡ UnknownCommand
unfolding nothing_more
nothing_err [] e h = absurd (cc)
nothing_err (w ∷ ws) e h = cc

numeral_err : (b : Bool) (o : Option ℕ) (e : LineFault) → cond {A = Result (Option ℕ) LineFault} b (Ok o) (Err UnknownCommand) ≡ Err e
    → e ≡ UnknownCommand
numeral_err true o e h = absurd (cc)
numeral_err false o e h = cc

pub number_err : (ws : List (List ℕ)) (e : LineFault) → needed_number ws ≡ Err e → e ≡ UnknownCommand
unfolding needed_number number_of
number_err ws e h = elim (err_after (needed_word ws) _ e h) [
  | inl k ↦ word_err ws e k
  | inr k ↦ elim (err_after (number_of k.0.0) _ e k.2) [
    | inl m ↦ numeral_err (is_numeral k.0.0) (u64_of (decimal_value k.0.0)) e m
    | inr m ↦ let f = m.2 in absurd (cc)
  ]
]

pub text_err : (text : List ℕ) (ws : List (List ℕ)) (e : LineFault) → needed_text text ws ≡ Err e → e ≡ UnknownCommand
unfolding needed_text
text_err text ws e h = elim (err_after (needed_word ws) _ e h) [
  | inl k ↦ word_err ws e k
  | inr k ↦ elim (err_picked (bytes_eq k.0.0 text) (Ok k.0.1) (Err UnknownCommand) e k.2) [
    | inl m ↦ let f = m.1 in absurd (cc)
    | inr m ↦ cc
  ]
]

pub range_err : {X : Type 0} (b : Bool) (x : X) (e : LineFault) → in_range b x ≡ Err e → e ≡ Range
range_err true x e h = absurd (cc)
range_err false x e h = cc

pub within_err : (least most : ℕ) (o : Option ℕ) (e : LineFault) → within least most o ≡ Err e → e ≡ Range
unfolding within
within_err least most None e h = cc
within_err least most (Some n) e h = range_err (nat_le least n && nat_le n most) n e h

value_of_word : (word : List ℕ) (o : Option ℕ) → number_of word ≡ Ok o → IsNumeralOf word (decimal_value word)
unfolding number_of
value_of_word word o e = record { digits = (number_by word (is_numeral word) o e).0; value = refl }

number_at : (word : List ℕ) (n : ℕ) → IsNumeralOf word n → number_of word ≡ Ok (u64_of (decimal_value word))
unfolding number_of
number_at word n is = ap (λ (b : Bool). cond {A = Result (Option ℕ) LineFault} b (Ok (u64_of (decimal_value word))) (Err UnknownCommand))
    is.digits

-- the fault is that of no form, or the fault of a range, and there is a form
unfoldable pub Either : LineFault → Type 0 → Type 0
Either e Form = (e ≡ UnknownCommand) ⊎ ((e ≡ Range) × Form)

either_map : (e : LineFault) (F G : Type 0) → (F → G) → Either e F → Either e G
unfolding Either
either_map e F G f (inl u) = inl u
either_map e F G f (inr r) = inr (r.0, f r.1)

pub unknown : (e : LineFault) (F : Type 0) → e ≡ UnknownCommand → Either e F
unfolding Either
unknown e F h = inl h

pub out_of_range : (e : LineFault) (F : Type 0) → e ≡ Range → F → Either e F
unfolding Either
out_of_range e F h f = inr (h, f)

OneValue : List (List ℕ) → Type 0
OneValue ws = (n : ℕ) × One IsNumeralOf ws n

one_value : (ws : List (List ℕ)) (o : Option ℕ) → one_number ws ≡ Ok o → OneValue ws
unfolding one_number OneValue
one_value ws o h =
    let a = after (needed_number ws) _ o h in
    let b = after (nothing_more a.0.1) _ o a.2 in
    let w = number_next ws a.0 a.1 in (
      decimal_value w.0,
      record {
        word = w.0;
        all = w.1 ∙ ap (λ (l : List (List ℕ)). w.0 ∷ l) (nothing_back a.0.1 b.0 b.1);
        is =
            value_of_word w.0 a.0.0 w.2;
      },
    )

one_number_err : (ws : List (List ℕ)) (e : LineFault) → one_number ws ≡ Err e → e ≡ UnknownCommand
unfolding one_number
one_number_err ws e h = elim (err_after (needed_number ws) _ e h) [
  | inl k ↦ number_err ws e k
  | inr k ↦ elim (err_after (nothing_more k.0.1) _ e k.2) [
    | inl m ↦ nothing_err k.0.1 e m
    | inr m ↦ let f = m.2 in absurd (cc)
  ]
]

one_err : (least most : ℕ) (ws : List (List ℕ)) (e : LineFault) → (one_number ws >>= within least most) ≡ Err e → Either e (OneValue ws)
one_err least most ws e h = elim (err_after (one_number ws) (within least most) e h) [
  | inl k ↦ unknown e (OneValue ws) (one_number_err ws e k)
  | inr k ↦ out_of_range e (OneValue ws) (within_err least most k.0 e k.2) (one_value ws k.0 k.1)
]

one_read : (ws : List (List ℕ)) (n : ℕ) (one : One IsNumeralOf ws n) → one_number ws ≡ Ok (u64_of (decimal_value one.word))
unfolding one_number nothing_more
one_read ws n one =
    ap one_number one.all
    ∙ ap (λ r. r >>= (λ (number : Found). nothing_more number.1 >>= (λ nothing. done number.0)))
    (number_first one.word [] (u64_of (decimal_value one.word)) (number_at one.word n one.is))

one_known : (least most : ℕ) (ws : List (List ℕ)) (n : ℕ) → One IsNumeralOf ws n → (one_number ws >>= within least most)
    ≡ Err UnknownCommand → ⊥
one_known least most ws n one h =
    let o = u64_of (decimal_value one.word) in
    let e : within least most o ≡ Err UnknownCommand = sym (ap (λ r. r >>= within least most) (one_read ws n one)) ∙ h in
    let clash : UnknownCommand ≡ Range = within_err least most o UnknownCommand e in
    absurd (cc)

TwoValues : List (List ℕ) → Type 0
TwoValues ws = (m : ℕ) × (n : ℕ) × Two IsNumeralOf IsNumeralOf ws m n

two_err : {X : Type 0} (l m l' m' : ℕ) (f : ℕ → ℕ → X) (ws : List (List ℕ)) (e : LineFault) → two_read l m l' m' f ws ≡ Err e
    → Either e (TwoValues ws)
unfolding two_read OneValue TwoValues
two_err l m l' m' f ws e h = elim (err_after (needed_number ws) _ e h) [
  | inl k ↦ unknown e _ (number_err ws e k)
  | inr a ↦ elim (err_after (one_number a.0.1) _ e a.2) [
    | inl k ↦ unknown e _ (one_number_err a.0.1 e k)
    | inr b ↦
        let v = number_next ws a.0 a.1 in
        let last = one_value a.0.1 b.0 b.1 in
        let form : TwoValues ws = (
          decimal_value v.0,
          last.0,
          record {
            first = v.0;
            second = last.1.word;
            all = v.1 ∙ ap (λ (l : List (List ℕ)). v.0 ∷ l) last.1.all;
            is = value_of_word v.0 a.0.0 v.2;
            are = last.1.is;
          },
        ) in
        elim (err_after (within l m a.0.0) _ e b.2) [
          | inl k ↦ out_of_range e _ (within_err l m a.0.0 e k) form
          | inr x ↦ elim (err_after (within l' m' b.0) _ e x.2) [
            | inl k ↦ out_of_range e _ (within_err l' m' b.0 e k) form
            | inr y ↦ let g = y.2 in absurd (cc)
          ]
        ]
  ]
]

two_known : {X : Type 0} (l m l' m' : ℕ) (f : ℕ → ℕ → X) (ws : List (List ℕ)) (x y : ℕ) → Two IsNumeralOf IsNumeralOf ws x y
    → two_read l m l' m' f ws ≡ Err UnknownCommand → ⊥
unfolding two_read
two_known l m l' m' f ws x y two h =
    let o = u64_of (decimal_value two.first) in
    let p = u64_of (decimal_value two.second) in
    let read : two_read l m l' m' f ws ≡ (within l m o >>= (λ x. within l' m' p >>= (λ y. done (f x y)))) =
    ap (two_read l m l' m' f) two.all
    ∙ ap (λ r. r >>= (λ (a : Found). one_number a.1 >>= (λ n. within l m a.0 >>= (λ x. within l' m' n >>= (λ y. done (f x y))))))
    (number_first two.first (two.second ∷ []) o (number_at two.first x two.is))
    ∙ ap (λ r. r >>= (λ (n : Option ℕ). within l m o >>= (λ x. within l' m' n >>= (λ y. done (f x y)))))
    (one_read (two.second ∷ []) y (record { word = two.second; all = refl; is = two.are })) in
    elim (err_after (within l m o) _ UnknownCommand (sym read ∙ h)) [
      | inl k ↦ let clash : UnknownCommand ≡ Range = within_err l m o UnknownCommand k in absurd (cc)
      | inr a ↦ elim (err_after (within l' m' p) _ UnknownCommand a.2) [
        | inl k ↦ let clash : UnknownCommand ≡ Range = within_err l' m' p UnknownCommand k in absurd (cc)
        | inr b ↦ let g = b.2 in absurd (cc)
      ]
    ]

client_err : (ws : List (List ℕ)) (e : LineFault) → client_in ws ≡ Err e → Either e (OneValue ws)
unfolding client_in
client_err ws e h = one_err 1 65535 ws e h

replica_err : (ws : List (List ℕ)) (e : LineFault) → replica_in ws ≡ Err e → Either e (OneValue ws)
unfolding replica_in
replica_err ws e h = one_err 0 14 ws e h

flight_err : (ws : List (List ℕ)) (e : LineFault) → flight_in ws ≡ Err e → Either e (OneValue ws)
unfolding flight_in
flight_err ws e h = one_err 0 4294967295 ws e h

send_err : (ws : List (List ℕ)) (e : LineFault) → send_in ws ≡ Err e → Either e (TwoValues ws)
unfolding send_in two_read
send_err ws e h = two_err 1 65535 0 14 step.Send ws e h

random_err : (ws : List (List ℕ)) (e : LineFault) → random_in ws ≡ Err e → Either e (TwoValues ws)
unfolding random_in two_read
random_err ws e h = two_err 0 18446744073709551615 0 1000000 command.Random ws e h

NamedValue : List ℕ → List (List ℕ) → Type 0
NamedValue name ws = (n : ℕ) × NameAndOne name IsNumeralOf ws n

named_by : (name w : List ℕ) (ws others : List (List ℕ)) → ws ≡ w ∷ others → w ≡ name → OneValue others → NamedValue name ws
unfolding OneValue NamedValue
named_by name w ws others all is one = (one.0, record { word = one.1.word; all = all ∙ (λ i. is i ∷ one.1.all i); is = one.1.is })

Stops : List (List ℕ) → Type 0
Stops ws = NamedValue (codes "client") ws ⊎ NamedValue (codes "replica") ws

stop_err : (ws : List (List ℕ)) (e : LineFault) → stop_in ws ≡ Err e → Either e (Stops ws)
unfolding stop_in stopped_in Stops
stop_err ws e h = elim (err_after (needed_word ws) _ e h) [
  | inl k ↦ unknown e _ (word_err ws e k)
  | inr k ↦
      let all = word_back ws k.0 k.1 in
      elim (err_picked (bytes_eq k.0.0 (codes "client")) (client_in k.0.1 >>= (λ n. done (step.StopClient n))) _ e k.2) [
        | inl w ↦ either_map e (OneValue k.0.1) (NamedValue (codes "client") ws ⊎ NamedValue (codes "replica") ws)
            (λ one. inl (named_by (codes "client") k.0.0 ws k.0.1 all (word_is k.0.0 (codes "client") w.0) one))
            (client_err k.0.1 e (err_mapped (client_in k.0.1) step.StopClient e w.1))
        | inr k2 ↦ elim (err_picked (bytes_eq k.0.0 (codes "replica")) (replica_in k.0.1 >>= (λ n. done (step.StopReplica n)))
            (Err UnknownCommand) e k2) [
              | inl w ↦ either_map e (OneValue k.0.1) (NamedValue (codes "client") ws ⊎ NamedValue (codes "replica") ws)
                  (λ one. inr (named_by (codes "replica") k.0.0 ws k.0.1 all (word_is k.0.0 (codes "replica") w.0) one))
                  (replica_err k.0.1 e (err_mapped (replica_in k.0.1) step.StopReplica e w.1))
              | inr k3 ↦ unknown e _ (cc)
            ]
      ]
]

start_err : (ws : List (List ℕ)) (e : LineFault) → start_in ws ≡ Err e → Either e (NamedValue (codes "replica") ws)
unfolding start_in
start_err ws e h = elim (err_after (needed_text (codes "replica") ws) _ e h) [
  | inl k ↦ unknown e _ (text_err (codes "replica") ws e k)
  | inr k ↦ either_map e (OneValue k.0) (NamedValue (codes "replica") ws)
      (named_by (codes "replica") (codes "replica") ws k.0 (text_back (codes "replica") ws k.0 k.1) refl)
      (replica_err k.0 e (err_mapped (replica_in k.0) step.StartReplica e k.2))
]

-- what a call asks, whatever the size of its value
AsksAny : List ℕ → List ℕ → Type 0
AsksAny word behind = ((word ≡ codes "read") × (words behind ≡ [])) ⊎ (word ≡ codes "write")

asks_any : (word behind : List ℕ) (action : Action) → Asks word behind action → AsksAny word behind
unfolding AsksAny
asks_any word behind Read h = inl h
asks_any word behind (Write value) h = inr h.0

action_err : (word behind : List ℕ) (e : LineFault) → action_in word behind ≡ Err e → Either e (AsksAny word behind)
unfolding action_in AsksAny
action_err word behind e h = elim
    (err_picked (bytes_eq word (codes "read")) (nothing_more (words behind) >>= (λ nothing. done Read)) _ e h) [
      | inl w ↦ elim (err_after (nothing_more (words behind)) _ e w.1) [
        | inl k ↦ unknown e _ (nothing_err (words behind) e k)
        | inr k ↦ let f = k.2 in absurd (cc)
      ]
      | inr k ↦ elim (err_picked (bytes_eq word (codes "write")) (value_of behind >>= (λ value. done (Write value))) (Err UnknownCommand) e k) [
        | inl w ↦ out_of_range e _ (range_err (is_value behind) behind e (err_mapped (value_of behind) Write e w.1))
            (inr (word_is word (codes "write") w.0))
        | inr k2 ↦ unknown e _ (cc)
      ]
    ]

Invokes : List (List ℕ) → List ℕ → Type 0
Invokes ws behind = (client : ℕ) × (key : List ℕ) × (action : Action) × SaysCall of_any_size ws behind client key action

invokes_by : (ws : List (List ℕ)) (behind caller word key : List ℕ) (others : List (List ℕ)) → ws ≡ caller ∷ word ∷ key ∷ others
    → words behind ≡ others → IsNumeralOf caller (decimal_value caller) → AsksAny word behind → Invokes ws behind
unfolding AsksAny Invokes
invokes_by ws behind caller word key others all same is (inl r) = (
  decimal_value caller,
  key,
  Read,
  record { caller = caller; all = all ∙ (λ i. caller ∷ r.0 i ∷ key ∷ (sym same ∙ r.1) i); is = is; named = tt },
)
invokes_by ws behind caller word key others all same is (inr w) = (
  decimal_value caller,
  key,
  Write behind,
  record {
    caller = caller;
    others = others;
    all = all ∙ (λ i. caller ∷ w i ∷ key ∷ others);
    is = is;
    named = tt;
    written = refl;
    short = tt;
  },
)

invoke_err : (args : List ℕ) (e : LineFault) → invoke_in args ≡ Err e → Either e (Invokes (words args) (behind_three args))
unfolding invoke_in
invoke_err args e h = elim (err_after (needed_number (words args)) _ e h) [
  | inl k ↦ unknown e _ (number_err (words args) e k)
  | inr a ↦ elim (err_after (needed_word a.0.1) _ e a.2) [
    | inl k ↦ unknown e _ (word_err a.0.1 e k)
    | inr b ↦ elim (err_after (needed_word b.0.1) _ e b.2) [
      | inl k ↦ unknown e _ (word_err b.0.1 e k)
      | inr k ↦
          let v = number_next (words args) a.0 a.1 in
          let second = word_back a.0.1 b.0 b.1 in
          let last = word_back b.0.1 k.0 k.1 in
          let all : words args ≡ v.0 ∷ b.0.0 ∷ k.0.0 ∷ k.0.1 = v.1
          ∙ ap (λ (l : List (List ℕ)). v.0 ∷ l) (second ∙ ap (λ (l : List (List ℕ)). b.0.0 ∷ l) last) in
          let form = invokes_by (words args) (behind_three args) v.0 b.0.0 k.0.0 k.0.1 all
          (words-behind_three args v.0 b.0.0 k.0.0 k.0.1 all) (value_of_word v.0 a.0.0 v.2) in
          elim (err_after (action_in b.0.0 (behind_three args)) _ e k.2) [
            | inl q ↦ either_map e (AsksAny b.0.0 (behind_three args)) (Invokes (words args) (behind_three args)) form
                (action_err b.0.0 (behind_three args) e q)
            | inr t ↦
                let made = form (asks_any b.0.0 (behind_three args) t.0 (action_back b.0.0 (behind_three args) t.0 t.1)) in
                elim (err_after (client_of a.0.0) _ e t.2) [
                  | inl q ↦ out_of_range e _ (within_err 1 65535 a.0.0 e q) made
                  | inr n ↦ elim (err_after (key_of k.0.0) _ e n.2) [
                    | inl q ↦ out_of_range e _ (range_err (is_key k.0.0) k.0.0 e q) made
                    | inr x ↦ let g = x.2 in absurd (cc)
                  ]
                ]
          ]
    ]
  ]
]

-- a form of a step
Forms : List ℕ → List (List ℕ) → List ℕ → Type 0
Forms verb ws behind = (s : Step) × SpellsStep of_any_size verb ws behind s

one_form : (verb name : List ℕ) (ws : List (List ℕ)) (behind : List ℕ) (r : Result ℕ LineFault) (make : ℕ → Step) (e : LineFault)
    → bytes_eq verb name ≡ true → (r >>= (λ n. done (make n))) ≡ Err e → (r ≡ Err e → Either e (OneValue ws))
    → ((n : ℕ) → (verb ≡ name) × One IsNumeralOf ws n → SpellsStep of_any_size verb ws behind (make n)) → Either e (Forms verb ws behind)
unfolding OneValue Forms
one_form verb name ws behind r make e test h err spells =
    either_map e (OneValue ws) (Forms verb ws behind) (λ one. (make one.0, spells one.0 (word_is verb name test, one.1)))
    (err (err_mapped r make e h))

client_step_err : (verb : List ℕ) (ws : List (List ℕ)) (behind : List ℕ) (e : LineFault) → client_step_in verb ws ≡ Err e
    → Either e (Forms verb ws behind)
unfolding client_step_in TwoValues Forms
client_step_err verb ws behind e h =
    elim (err_picked (bytes_eq verb (codes "join")) (client_in ws >>= (λ n. done (step.Join n))) _ e h) [
      | inl w ↦ one_form verb (codes "join") ws behind (client_in ws) step.Join e w.0 w.1 (client_err ws e) (λ n h. h)
      | inr h2 ↦ elim (err_picked (bytes_eq verb (codes "send")) (send_in ws) _ e h2) [
        | inl w ↦ either_map e (TwoValues ws) ((s : Step) × SpellsStep of_any_size verb ws behind s)
            (λ two. (step.Send two.0 two.1, (word_is verb (codes "send") w.0, two.2))) (send_err ws e w.1)
        | inr h3 ↦ elim (err_picked (bytes_eq verb (codes "respond")) (client_in ws >>= (λ n. done (step.Respond n)))
            (Err UnknownCommand) e h3) [
              | inl w ↦ one_form verb (codes "respond") ws behind (client_in ws) step.Respond e w.0 w.1 (client_err ws e) (λ n h. h)
              | inr h4 ↦ unknown e _ (cc)
            ]
      ]
    ]

stop_form : (verb : List ℕ) (ws : List (List ℕ)) (behind : List ℕ) → verb ≡ codes "stop" → Stops ws → Forms verb ws behind
unfolding Stops NamedValue Forms
stop_form verb ws behind is (inl c) = (step.StopClient c.0, (is, c.1))
stop_form verb ws behind is (inr r) = (step.StopReplica r.0, (is, r.1))

step_err : (verb : List ℕ) (ws : List (List ℕ)) (behind : List ℕ) (e : LineFault)
    → step_in verb ws ≡ Err e → Either e (Forms verb ws behind)
unfolding step_in NamedValue Forms
step_err verb ws behind e h =
    elim (err_picked (bytes_eq verb (codes "deliver")) (flight_in ws >>= (λ n. done (step.Deliver n))) _ e h) [
      | inl w ↦ one_form verb (codes "deliver") ws behind (flight_in ws) step.Deliver e w.0 w.1 (flight_err ws e) (λ n h. h)
      | inr h2 ↦ elim (err_picked (bytes_eq verb (codes "lose")) (flight_in ws >>= (λ n. done (step.Lose n))) _ e h2) [
        | inl w ↦ one_form verb (codes "lose") ws behind (flight_in ws) step.Lose e w.0 w.1 (flight_err ws e) (λ n h. h)
        | inr h3 ↦ elim (err_picked (bytes_eq verb (codes "repeat")) (flight_in ws >>= (λ n. done (step.Repeat n))) _ e h3) [
          | inl w ↦ one_form verb (codes "repeat") ws behind (flight_in ws) step.Repeat e w.0 w.1 (flight_err ws e) (λ n h. h)
          | inr h4 ↦ elim (err_picked (bytes_eq verb (codes "stop")) (stop_in ws) _ e h4) [
            | inl w ↦ either_map e (Stops ws) (Forms verb ws behind) (stop_form verb ws behind (word_is verb (codes "stop") w.0))
                (stop_err ws e w.1)
            | inr h5 ↦ elim (err_picked (bytes_eq verb (codes "start")) (start_in ws) (client_step_in verb ws) e h5) [
              | inl w ↦ either_map e (NamedValue (codes "replica") ws) ((s : Step) × SpellsStep of_any_size verb ws behind s)
                  (λ r. (step.StartReplica r.0, (word_is verb (codes "start") w.0, r.1))) (start_err ws e w.1)
              | inr h6 ↦ client_step_err verb ws behind e h6
            ]
          ]
        ]
      ]
    ]

-- a command's fault: it has no form, or it has one and the fault is that of a range
pub command_err : (verb args : List ℕ) (e : LineFault) → command_in verb args ≡ Err e
    → Either e (HasForm verb (words args) (behind_three args))
unfolding command_in OneValue TwoValues Invokes Forms
command_err verb args e h =
    elim (err_picked (bytes_eq verb (codes "invoke")) (invoke_in args >>= (λ s. done (command.Step s))) _ e h) [
      | inl w ↦ either_map e (Invokes (words args) (behind_three args)) (HasForm verb (words args) (behind_three args))
          (λ i. record { command = command.Step (step.Invoke i.0 i.1 i.2); spelled = (word_is verb (codes "invoke") w.0, i.3) })
          (invoke_err args e (err_mapped (invoke_in args) command.Step e w.1))
      | inr h2 ↦ elim (err_picked (bytes_eq verb (codes "finish")) (client_in (words args) >>= (λ n. done (command.Finish n))) _ e h2) [
        | inl w ↦ either_map e (OneValue (words args)) (HasForm verb (words args) (behind_three args))
            (λ one. record { command = command.Finish one.0; spelled = (word_is verb (codes "finish") w.0, one.1) })
            (client_err (words args) e (err_mapped (client_in (words args)) command.Finish e w.1))
        | inr h3 ↦ elim (err_picked (bytes_eq verb (codes "random")) (random_in (words args)) _ e h3) [
          | inl w ↦ either_map e (TwoValues (words args)) (HasForm verb (words args) (behind_three args))
              (λ two. record { command = command.Random two.0 two.1; spelled = (word_is verb (codes "random") w.0, two.2) })
              (random_err (words args) e w.1)
          | inr h4 ↦ either_map e (Forms verb (words args) (behind_three args)) (HasForm verb (words args) (behind_three args))
              (λ s. record { command = command.Step s.0; spelled = s.1 })
              (step_err verb (words args) (behind_three args) e (err_mapped (step_in verb (words args)) command.Step e h4))
        ]
      ]
    ]

-- what has a form isn't unknown
client_known : (ws : List (List ℕ)) (n : ℕ) → One IsNumeralOf ws n → client_in ws ≡ Err UnknownCommand → ⊥
unfolding client_in
client_known ws n one h = one_known 1 65535 ws n one h

replica_known : (ws : List (List ℕ)) (n : ℕ) → One IsNumeralOf ws n → replica_in ws ≡ Err UnknownCommand → ⊥
unfolding replica_in
replica_known ws n one h = one_known 0 14 ws n one h

flight_known : (ws : List (List ℕ)) (n : ℕ) → One IsNumeralOf ws n → flight_in ws ≡ Err UnknownCommand → ⊥
unfolding flight_in
flight_known ws n one h = one_known 0 4294967295 ws n one h

alone_value : (name : List ℕ) (ws : List (List ℕ)) (n : ℕ) (h : NameAndOne name IsNumeralOf ws n) → One IsNumeralOf (h.word ∷ []) n
alone_value name ws n h = record { word = h.word; all = refl; is = h.is }

stop_client_known : (ws : List (List ℕ)) (n : ℕ) → NameAndOne (codes "client") IsNumeralOf ws n → stop_in ws ≡ Err UnknownCommand → ⊥
unfolding stop_in stopped_in needed_word
stop_client_known ws n h e = client_known (h.word ∷ []) n (alone_value (codes "client") ws n h)
    (err_mapped (client_in (h.word ∷ [])) step.StopClient UnknownCommand (sym (ap stop_in h.all) ∙ e))

stop_replica_known : (ws : List (List ℕ)) (n : ℕ) → NameAndOne (codes "replica") IsNumeralOf ws n → stop_in ws ≡ Err UnknownCommand → ⊥
unfolding stop_in stopped_in needed_word
stop_replica_known ws n h e =
    replica_known (h.word ∷ []) n (alone_value (codes "replica") ws n h)
    (err_mapped (replica_in (h.word ∷ [])) step.StopReplica UnknownCommand (sym (ap stop_in h.all) ∙ e))

start_known : (ws : List (List ℕ)) (n : ℕ) → NameAndOne (codes "replica") IsNumeralOf ws n → start_in ws ≡ Err UnknownCommand → ⊥
unfolding start_in needed_text needed_word
start_known ws n h e = replica_known (h.word ∷ []) n (alone_value (codes "replica") ws n h)
    (err_mapped (replica_in (h.word ∷ [])) step.StartReplica UnknownCommand (sym (ap start_in h.all) ∙ e))

send_known : (ws : List (List ℕ)) (m n : ℕ) → Two IsNumeralOf IsNumeralOf ws m n → send_in ws ≡ Err UnknownCommand → ⊥
unfolding send_in two_read
send_known ws m n two h = two_known 1 65535 0 14 step.Send ws m n two h

random_known : (ws : List (List ℕ)) (m n : ℕ) → Two IsNumeralOf IsNumeralOf ws m n → random_in ws ≡ Err UnknownCommand → ⊥
unfolding random_in two_read
random_known ws m n two h = two_known 0 18446744073709551615 0 1000000 command.Random ws m n two h

-- an invocation whose words have the form
asked_known : (behind key word : List ℕ) (o : Option ℕ) → (action_in word behind ≡ Err UnknownCommand → ⊥)
    → (action_in word behind >>= (λ asked. client_of o >>= (λ name. key_of key >>= (λ text. done (step.Invoke name text asked)))))
    ≡ Err UnknownCommand → ⊥
asked_known behind key word o asks h = elim (err_after (action_in word behind) _ UnknownCommand h) [
  | inl k ↦ asks k
  | inr t ↦ elim (err_after (client_of o) _ UnknownCommand t.2) [
    | inl k ↦ let clash : UnknownCommand ≡ Range = within_err 1 65535 o UnknownCommand k in absurd (cc)
    | inr n ↦ elim (err_after (key_of key) _ UnknownCommand n.2) [
      | inl k ↦ let clash : UnknownCommand ≡ Range = range_err (is_key key) key UnknownCommand k in absurd (cc)
      | inr x ↦ let g = x.2 in absurd (cc)
    ]
  ]
]

invoked_known : (behind caller word key : List ℕ) (others : List (List ℕ)) (client : ℕ) → IsNumeralOf caller client
    → (action_in word behind ≡ Err UnknownCommand → ⊥) → invoked (caller ∷ word ∷ key ∷ others) behind ≡ Err UnknownCommand → ⊥
unfolding invoked needed_word
invoked_known behind caller word key others client is asks h =
    let o = u64_of (decimal_value caller) in
    asked_known behind key word o asks
    (sym (ap (λ r. r >>= (λ (client : Found).
    needed_word client.1 >>= (λ action.
    needed_word action.1 >>= (λ key.
    action_in action.0 behind >>=
    (λ asked. client_of client.0 >>= (λ name. key_of key.0 >>= (λ text. done (step.Invoke name text asked))))))))
    (number_first caller (word ∷ key ∷ others) o (number_at caller client is))) ∙ h)

read_known : (behind : List ℕ) → words behind ≡ [] → action_in (codes "read") behind ≡ Err UnknownCommand → ⊥
read_known behind none h = let e = read_asked behind none in cc

write_known : (behind : List ℕ) → action_in (codes "write") behind ≡ Err UnknownCommand → ⊥
unfolding action_in
write_known behind h =
    let clash : UnknownCommand ≡ Range =
    range_err (is_value behind) behind UnknownCommand (err_mapped (value_of behind) Write UnknownCommand h) in
    absurd (cc)

invoke_known : (args : List ℕ) (client : ℕ) (key : List ℕ) (action : Action)
    → SaysCall of_any_size (words args) (behind_three args) client key action → invoke_in args ≡ Err UnknownCommand → ⊥
unfolding invoke_in invoked
invoke_known args client key Read h e =
    invoked_known (behind_three args) h.caller (codes "read") key [] client h.is
    (read_known (behind_three args) (words-behind_three args h.caller (codes "read") key [] h.all))
    (sym (ap (λ ws. invoked ws (behind_three args)) h.all) ∙ e)
invoke_known args client key (Write value) h e =
    invoked_known (behind_three args) h.caller (codes "write") key h.others client h.is (write_known (behind_three args))
    (sym (ap (λ ws. invoked ws (behind_three args)) h.all) ∙ e)

-- a step that one number says isn't unknown
client_unread : (ws : List (List ℕ)) (make : ℕ → Step) (n : ℕ) → One IsNumeralOf ws n
    → ((client_in ws >>= (λ n. done (make n))) >>= (λ s. done (command.Step s))) ≡ Err UnknownCommand → ⊥
client_unread ws make n one e =
    let made = err_mapped (client_in ws >>= (λ n. done (make n))) command.Step UnknownCommand e in
    client_known ws n one (err_mapped (client_in ws) make UnknownCommand made)

flight_unread : (ws : List (List ℕ)) (make : ℕ → Step) (n : ℕ) → One IsNumeralOf ws n
    → ((flight_in ws >>= (λ n. done (make n))) >>= (λ s. done (command.Step s))) ≡ Err UnknownCommand → ⊥
flight_unread ws make n one e =
    let made = err_mapped (flight_in ws >>= (λ n. done (make n))) command.Step UnknownCommand e in
    flight_known ws n one (err_mapped (flight_in ws) make UnknownCommand made)

named_err : (verb name args : List ℕ) → verb ≡ name → command_in verb args ≡ Err UnknownCommand → command_in name args ≡ Err UnknownCommand
named_err verb name args is e = sym (ap (λ v. command_in v args) is) ∙ e

step_known : (verb args : List ℕ) (s : Step) → SpellsStep of_any_size verb (words args) (behind_three args) s
    → command_in verb args ≡ Err UnknownCommand → ⊥
unfolding command_in step_in client_step_in
step_known verb args (step.Join n) h e = client_unread (words args) step.Join n h.1 (named_err verb (codes "join") args h.0 e)
step_known verb args (step.Invoke client key action) h e =
    invoke_known args client key action h.1 (err_mapped (invoke_in args) command.Step UnknownCommand (named_err verb (codes "invoke") args h.0 e))
step_known verb args (step.Send m n) h e =
    send_known (words args) m n h.1 (err_mapped (send_in (words args)) command.Step UnknownCommand (named_err verb (codes "send") args h.0 e))
step_known verb args (step.Deliver n) h e = flight_unread (words args) step.Deliver n h.1 (named_err verb (codes "deliver") args h.0 e)
step_known verb args (step.Lose n) h e = flight_unread (words args) step.Lose n h.1 (named_err verb (codes "lose") args h.0 e)
step_known verb args (step.Repeat n) h e = flight_unread (words args) step.Repeat n h.1 (named_err verb (codes "repeat") args h.0 e)
step_known verb args (step.Respond n) h e = client_unread (words args) step.Respond n h.1 (named_err verb (codes "respond") args h.0 e)
step_known verb args (step.StopClient n) h e =
    let read = named_err verb (codes "stop") args h.0 e in
    stop_client_known (words args) n h.1 (err_mapped (stop_in (words args)) command.Step UnknownCommand read)
step_known verb args (step.StopReplica n) h e =
    let read = named_err verb (codes "stop") args h.0 e in
    stop_replica_known (words args) n h.1 (err_mapped (stop_in (words args)) command.Step UnknownCommand read)
step_known verb args (step.StartReplica n) h e =
    let read = named_err verb (codes "start") args h.0 e in
    start_known (words args) n h.1 (err_mapped (start_in (words args)) command.Step UnknownCommand read)

pub command_known : (verb args : List ℕ) (c : Command) → Spells of_any_size verb (words args) (behind_three args) c
    → command_in verb args ≡ Err UnknownCommand → ⊥
unfolding command_in
command_known verb args (command.Step s) h e = step_known verb args s h e
command_known verb args (command.Finish n) h e =
    client_known (words args) n h.1
    (err_mapped (client_in (words args)) command.Finish UnknownCommand (sym (ap (λ v. command_in v args) h.0) ∙ e))
command_known verb args (command.Random m n) h e =
    random_known (words args) m n h.1 (sym (ap (λ v. command_in v args) h.0) ∙ e)

value_in : (least most : ℕ) (word : List ℕ) (n : ℕ) → IsNumber least most word n → IsNumeralOf word n
value_in least most word n is = record { digits = is.digits; value = is.value }

one_any : (least most : ℕ) (ws : List (List ℕ)) (n : ℕ) → One (IsNumber least most) ws n → One IsNumeralOf ws n
one_any least most ws n h = record { word = h.word; all = h.all; is = value_in least most h.word n h.is }

named_any : (name : List ℕ) (least most : ℕ) (ws : List (List ℕ)) (n : ℕ) → NameAndOne name (IsNumber least most) ws n
    → NameAndOne name IsNumeralOf ws n
named_any name least most ws n h = record { word = h.word; all = h.all; is = value_in least most h.word n h.is }

two_any : (l m l' m' : ℕ) (ws : List (List ℕ)) (x y : ℕ) → Two (IsNumber l m) (IsNumber l' m') ws x y → Two IsNumeralOf IsNumeralOf ws x y
two_any l m l' m' ws x y h = record {
  first = h.first;
  second = h.second;
  all = h.all;
  is = value_in l m h.first x h.is;
  are =
      value_in l' m' h.second y h.are;
}

invoke_any : (ws : List (List ℕ)) (behind : List ℕ) (client : ℕ) (key : List ℕ) (action : Action)
    → SaysCall in_ranges ws behind client key action → SaysCall of_any_size ws behind client key action
invoke_any ws behind client key Read h = record { caller = h.caller; all = h.all; is = value_in 1 65535 h.caller client h.is; named = tt }
invoke_any ws behind client key (Write value) h =
    record {
      caller = h.caller;
      others = h.others;
      all = h.all;
      is = value_in 1 65535 h.caller client h.is;
      named = tt;
      written =
          h.written;
      short = tt;
    }

step_any : (verb : List ℕ) (ws : List (List ℕ)) (behind : List ℕ) (s : Step) → SpellsStep in_ranges verb ws behind s
    → SpellsStep of_any_size verb ws behind s
step_any verb ws behind (step.Join n) h = (h.0, one_any 1 65535 ws n h.1)
step_any verb ws behind (step.Invoke client key action) h = (h.0, invoke_any ws behind client key action h.1)
step_any verb ws behind (step.Send m n) h = (h.0, two_any 1 65535 0 14 ws m n h.1)
step_any verb ws behind (step.Deliver n) h = (h.0, one_any 0 4294967295 ws n h.1)
step_any verb ws behind (step.Lose n) h = (h.0, one_any 0 4294967295 ws n h.1)
step_any verb ws behind (step.Repeat n) h = (h.0, one_any 0 4294967295 ws n h.1)
step_any verb ws behind (step.Respond n) h = (h.0, one_any 1 65535 ws n h.1)
step_any verb ws behind (step.StopClient n) h = (h.0, named_any (codes "client") 1 65535 ws n h.1)
step_any verb ws behind (step.StopReplica n) h = (h.0, named_any (codes "replica") 0 14 ws n h.1)
step_any verb ws behind (step.StartReplica n) h = (h.0, named_any (codes "replica") 0 14 ws n h.1)

-- what is said has a form
pub form_of_said : (verb : List ℕ) (ws : List (List ℕ)) (behind : List ℕ) (c : Command) → Spells in_ranges verb ws behind c
    → HasForm verb ws behind
form_of_said verb ws behind (command.Step s) h = record { command = command.Step s; spelled = step_any verb ws behind s h }
form_of_said verb ws behind (command.Finish n) h = record { command = command.Finish n; spelled = (h.0, one_any 1 65535 ws n h.1) }
form_of_said verb ws behind (command.Random m n) h =
    record { command = command.Random m n; spelled = (h.0, two_any 0 18446744073709551615 0 1000000 ws m n h.1) }

abbrev failed : LineFault → Result Command LineFault
failed e = Err e

none_unknown : (verb args : List ℕ) (r : Result Command LineFault) → command_in verb args ≡ r
    → (HasForm verb (words args) (behind_three args) → ⊥) → command_in verb args ≡ Err UnknownCommand
unfolding Either
none_unknown verb args (Ok c) e lacks = absurd (lacks (form_of_said verb (words args) (behind_three args) c (command_back verb args c e)))
none_unknown verb args (Err f) e lacks = elim (command_err verb args f e) [ inl u ↦ e ∙ ap failed u | inr r ↦ absurd (lacks r.1) ]

-- a command is unknown exactly where it has no form
pub unknown_form : (verb args : List ℕ) → (command_in verb args ≡ Err UnknownCommand) ↔ (HasForm verb (words args) (behind_three args) → ⊥)
unknown_form verb args = (λ e form. command_known verb args form.command form.spelled e, none_unknown verb args (command_in verb args) refl)

range_by : (verb args : List ℕ) (r : Result Command LineFault) → command_in verb args ≡ r → HasForm verb (words args) (behind_three args)
    → ((c : Command) → Spells in_ranges verb (words args) (behind_three args) c → ⊥) → command_in verb args ≡ Err Range
unfolding Either
range_by verb args (Ok c) e form lacks = absurd (lacks c (command_back verb args c e))
range_by verb args (Err f) e form lacks =
    elim (command_err verb args f e) [
      | inl u ↦ absurd (command_known verb args form.command form.spelled (e ∙ ap failed u))
      | inr r ↦ e
          ∙ ap failed r.0
    ]

-- a form that isn't said is out of range
pub range_form : (verb args : List ℕ) → HasForm verb (words args) (behind_three args)
    → ((c : Command) → Spells in_ranges verb (words args) (behind_three args) c → ⊥) → command_in verb args ≡ Err Range
range_form verb args form lacks = range_by verb args (command_in verb args) refl form lacks
