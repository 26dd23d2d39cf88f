-- Which fault a line's words have: none of a form that may stand there is unknown, one of a form is out of range.
use Rattle.std.proofs.Common.{ℕ, zero, suc, ◌≡◌, ◌≢◌, ◌↔◌, ◌⊎◌, ◌&&◌, inl, inr, List, [], ◌∷◌, ◌++◌}
use Rattle.std.proofs.Common.{length, Bool, true, false, cond, Option, Some, None, Result, Ok, Err}
use Rattle.std.proofs.Common.{codes, bytes_eq, nat_le, refl, sym, ap, ◌∙◌, subst, arith}
use Rattle.std.specs.List.{AllZip}
use Rattle.std.specs.Cmp.Lexicographic.{bytes_decides}
use Rattle.tag.proofs.Lists.{same_head}
use Rattle.client_phases.specs.declared.rules.ReadMode.{ReadMode}
use Rattle.client_phases.specs.declared.rules.ReadMode.TheVariants.{Full, Short}
use Rattle.quorum.specs.Quorums.{Quorums}
use Rattle.world_steps.specs.Configs.{Config}
use Rattle.fault_script.specs.declared.parse_line.Last.{Last}
use Rattle.fault_script.specs.declared.parse_line.Last.TheVariants as last
use Rattle.fault_script.specs.declared.parse_line.ConfigSoFar.{ConfigSoFar}
use Rattle.fault_script.specs.declared.parse_line.Said.{Said}
use Rattle.fault_script.specs.declared.parse_line.Said.TheVariants.{Opens, Runs}
use Rattle.fault_script.specs.declared.fault.LineFault.{LineFault}
use Rattle.fault_script.specs.declared.fault.LineFault.TheVariants.{NoReplicas, UnknownCommand, Range}
use Rattle.fault_script.specs.Words.{words, behind_three, is_numeral, decimal_value, u64_of, number_of}
use Rattle.counted_devices.specs.Answers.{◌>>=◌}
use Rattle.fault_script.specs.Says.{needed_word, needed_number, needed_text, nothing_more, number_or, in_range, within}
use Rattle.fault_script.specs.Settings.{after_replicas, after_reads, after_votes, config_in}
use Rattle.fault_script.specs.Settings.{replicas_in, mode_of, reads_in, vote_count, numbers_in}
use Rattle.fault_script.specs.Settings.{is_lawful, quorums_of, votes_in}
use Rattle.fault_script.specs.Commands.{command_in}
use Rattle.fault_script.specs.LineMeanings.{reads_said, votes_set, votes_said, first_said, said_in}
use Rattle.fault_script.specs.Forms.{IsNumeralOf, of_any_size, HasForm}
use Rattle.fault_script.specs.SettingForms.{SaysReplicas, alone, with_calls, with_flights}
use Rattle.fault_script.specs.SettingForms.{SaysReads, SaysVotes, MayVote, SaysAfter, replicas}
use Rattle.fault_script.specs.SettingForms.{reads, votes, runs}
use Rattle.fault_script.specs.LineFaults.{AreNumerals, HasReplicasForm, HasVotesForm, HasFormAfter}
use Rattle.fault_script.specs.LineFaults.{replicas_form, reads_form, votes_form, command_form}
use Rattle.fault_script.specs.LineFaults.{LacksReplicas, HasWordFault}
use Rattle.fault_script.proofs.Chains.{done}
use Rattle.fault_script.proofs.ReadingBack.{Found, word_is, number_next, number_first, number_by, nothing_back, text_back}
use Rattle.fault_script.proofs.SettingsBack.{Counts, Rows, row_back, row_words, behind_put, behind_ask, behind_votes}
use Rattle.fault_script.proofs.SaidBack.{IsPlain, command_plain, said_back, said_there}
use Rattle.fault_script.proofs.FormFaults.{Either, unknown, out_of_range, err_after, number_err}
use Rattle.fault_script.proofs.FormFaults.{nothing_err, text_err, range_err, command_err}
use Rattle.fault_script.proofs.FormFaults.{command_known, form_of_said}

-- ---- what a step tells

-- `UnknownCommand` where there is no form, `Range` where there is one
abbrev IsFormFault : Type 0 → LineFault → Type 0
IsFormFault Form UnknownCommand = Form → ⊥
IsFormFault Form Range = Form
IsFormFault Form fault = ⊥

abbrev Told : {X : Type 0} → Type 0 → Result X LineFault → Type 0
Told Form (Ok x) = Unit {0}
Told Form (Err fault) = IsFormFault Form fault

module _ (Form : Type 0) where
  bind : {A B : Type 0} (r : Result A LineFault) (f : A → Result B LineFault) → Told Form r → ((x : A) → Told Form (f x))
      → Told Form (r >>= f)
  bind (Ok x) f h k = k x
  bind (Err e) f h k = h

  -- the next word is a number or not
  number_then : {X : Type 0} (w : List ℕ) (rest : List (List ℕ)) (k : Found → Result X LineFault) → (Form → is_numeral w ≡ true)
      → (is_numeral w ≡ true → Told Form (k (u64_of (decimal_value w), rest))) → Told Form (needed_number (w ∷ rest) >>= k)
  unfolding needed_number needed_word number_of
  number_then {X = X} w rest k has go = by (is_numeral w) refl
    where
      by : (b : Bool) → is_numeral w ≡ b
          → Told Form ((cond {A = Result (Option ℕ) LineFault} b (Ok (u64_of (decimal_value w))) (Err UnknownCommand) >>=
          (λ number. done (number, rest))) >>= k)
      by true e = go e
      by false e = λ h. let yes = has h in absurd (cc)

  within_told : (least most : ℕ) (o : Option ℕ) → Form → Told Form (within least most o)
  unfolding within
  within_told least most None form = form
  within_told least most (Some n) form = by (nat_le least n && nat_le n most)
    where
      by : (b : Bool) → Told Form (in_range b n)
      by true = tt
      by false = form

  config_told : (o p q : Option ℕ) → Form → Told Form (config_in o p q)
  unfolding config_in
  config_told o p q form =
      bind (within 1 15 o) _ (within_told 1 15 o form) (λ n.
      bind (within 1 1000000 p) _ (within_told 1 1000000 p form) (λ calls.
      bind (within 1 16000000 q) _ (within_told 1 16000000 q form) (λ flights. tt)))

  -- the fault of a step, once it is known when that fails
  told_by : {X : Type 0} (r : Result X LineFault) → ((e : LineFault) → r ≡ Err e → Either e Form) → (Form → r ≡ Err UnknownCommand → ⊥)
      → Told Form r
  unfolding Either
  told_by (Ok x) fails known = tt
  told_by {X = X} (Err e) fails known =
      let P : LineFault → Type 0 = λ f. IsFormFault Form f in
      elim (fails e refl) [
        | inl u ↦ subst P (sym u) (λ form. known form (ap (λ (f : LineFault). Err f) u))
        | inr r ↦ subst P (sym r.0) r.1
      ]

-- a form that is there exactly where the other is
lifted : {X : Type 0} (F G : Type 0) (r : Result X LineFault) → (F → G) → (G → F) → Told F r → Told G r
lifted F G (Ok x) up down t = tt
lifted F G (Err UnknownCommand) up down t = λ g. t (down g)
lifted F G (Err Range) up down t = up t
lifted F G (Err _) up down t = absurd t

-- ---- `replicas`

replicas_told : (ws : List (List ℕ)) → Told (HasReplicasForm ws) (replicas_in ws)
unfolding replicas_in needed_number needed_word number_or nothing_more
replicas_told [] = λ form. omega (arith, form.least)
replicas_told (n ∷ []) =
    let F = HasReplicasForm (n ∷ []) in
    number_then F n [] _ (λ form. form.numbers.0) (λ a.
    config_told F _ _ _ (record { numbers = (a, tt); least = omega arith; most = omega arith }))
replicas_told (n ∷ calls ∷ []) =
    let F = HasReplicasForm (n ∷ calls ∷ []) in
    number_then F n (calls ∷ []) _ (λ form. form.numbers.0) (λ a.
    number_then F calls [] _ (λ form. form.numbers.1.0) (λ b.
    config_told F _ _ _ (record { numbers = (a, (b, tt)); least = omega arith; most = omega arith })))
replicas_told (n ∷ calls ∷ flights ∷ []) =
    let F = HasReplicasForm (n ∷ calls ∷ flights ∷ []) in
    number_then F n (calls ∷ flights ∷ []) _ (λ form. form.numbers.0) (λ a.
    number_then F calls (flights ∷ []) _ (λ form. form.numbers.1.0) (λ b.
    number_then F flights [] _ (λ form. form.numbers.1.1.0) (λ c.
    config_told F _ _ _ (record { numbers = (a, (b, (c, tt))); least = omega arith; most = omega arith }))))
replicas_told (n ∷ calls ∷ flights ∷ other ∷ ws) =
    let F = HasReplicasForm (n ∷ calls ∷ flights ∷ other ∷ ws) in
    number_then F n (calls ∷ flights ∷ other ∷ ws) _ (λ form. form.numbers.0) (λ a.
    number_then F calls (flights ∷ other ∷ ws) _ (λ form. form.numbers.1.0) (λ b.
    number_then F flights (other ∷ ws) _ (λ form. form.numbers.1.1.0) (λ c. λ form. omega (arith, form.most))))

-- ---- `reads`

ReadsForm : List (List ℕ) → Type 0
ReadsForm ws = (mode : ReadMode) × SaysReads ws mode

no_reads : (ws : List (List ℕ)) → (ws ≡ codes "full" ∷ [] → ⊥) → (ws ≡ codes "short" ∷ [] → ⊥) → ReadsForm ws → ⊥
unfolding ReadsForm
no_reads ws full short (Full, h) = full h
no_reads ws full short (Short, h) = short h

other : (a b : List ℕ) → bytes_eq a b ≡ false → a ≢ b
other a b apart equal = let yes = (bytes_decides a b).1 equal in cc

mode_told : (w : List ℕ) → Told (ReadsForm (w ∷ [])) (mode_of w)
unfolding mode_of
mode_told w = by (bytes_eq w (codes "full")) (bytes_eq w (codes "short")) refl refl
  where
    by : (b c : Bool) → bytes_eq w (codes "full") ≡ b → bytes_eq w (codes "short") ≡ c
        → Told (ReadsForm (w ∷ [])) (cond {A = Result ReadMode LineFault} b (Ok Full) (cond c (Ok Short) (Err UnknownCommand)))
    by true c e f = tt
    by false true e f = tt
    by false false e f = no_reads (w ∷ []) (λ h. other w (codes "full") e (same_head w (codes "full") [] [] h))
        (λ h. other w (codes "short") f (same_head w (codes "short") [] [] h))

reads_told : (ws : List (List ℕ)) → Told (ReadsForm ws) (reads_in ws)
unfolding reads_in needed_word nothing_more
reads_told [] = no_reads [] (λ h. cc) (λ h. cc)
reads_told (w ∷ []) = mode_told w
reads_told (w ∷ v ∷ ws) = no_reads (w ∷ v ∷ ws) (λ h. cc) (λ h. cc)

-- ---- `votes`

numeral_of : (w : List ℕ) (o : Option ℕ) → number_of w ≡ Ok o → is_numeral w ≡ true
unfolding number_of
numeral_of w o e = (number_by w (is_numeral w) o e).0

numeral_read : (w : List ℕ) → is_numeral w ≡ true → number_of w ≡ Ok (u64_of (decimal_value w))
unfolding number_of
numeral_read w is = ap (λ (b : Bool). cond {A = Result (Option ℕ) LineFault} b (Ok (u64_of (decimal_value w))) (Err UnknownCommand)) is

numerals : (ws : List (List ℕ)) (ns : List ℕ) → AllZip Counts ws ns → AreNumerals ws
unfolding Counts
numerals [] ns h = tt
numerals (w ∷ ws) [] h = absurd h
numerals (w ∷ ws) (n ∷ ns) h = (numeral_of w h.0.0 h.0.1, numerals ws ns h.1)

as_many : (ws : List (List ℕ)) (ns : List ℕ) → AllZip Counts ws ns → length ws ≡ length ns
as_many [] [] h = refl
as_many [] (n ∷ ns) h = absurd h
as_many (w ∷ ws) [] h = absurd h
as_many (w ∷ ws) (n ∷ ns) h = ap suc (as_many ws ns h.1)

numbers_err : (n : ℕ) (ws : List (List ℕ)) (e : LineFault) → numbers_in n ws ≡ Err e → e ≡ UnknownCommand
unfolding numbers_in
numbers_err zero ws e h = absurd (cc)
numbers_err (suc n) ws e h = elim (err_after (needed_number ws) _ e h) [
  | inl k ↦ number_err ws e k
  | inr a ↦ elim (err_after (numbers_in n a.0.1) _ e a.2) [
    | inl k ↦ numbers_err n a.0.1 e k
    | inr b ↦ let f = b.2 in absurd (cc)
  ]
]

votes_err : (n : ℕ) (ws : List (List ℕ)) (e : LineFault) → votes_in n ws ≡ Err e → Either e (HasVotesForm n ws)
unfolding votes_in
votes_err n ws e h = elim (err_after (numbers_in n ws) _ e h) [
  | inl k ↦ unknown e _ (numbers_err n ws e k)
  | inr v ↦ elim (err_after (needed_text (codes "ask") v.0.1) _ e v.2) [
    | inl k ↦ unknown e _ (text_err (codes "ask") v.0.1 e k)
    | inr s ↦ elim (err_after (needed_number s.0) _ e s.2) [
      | inl k ↦ unknown e _ (number_err s.0 e k)
      | inr a ↦ elim (err_after (needed_text (codes "put") a.0.1) _ e a.2) [
        | inl k ↦ unknown e _ (text_err (codes "put") a.0.1 e k)
        | inr t ↦ elim (err_after (needed_number t.0) _ e t.2) [
          | inl k ↦ unknown e _ (number_err t.0 e k)
          | inr p ↦ elim (err_after (nothing_more p.0.1) _ e p.2) [
            | inl k ↦ unknown e _ (nothing_err p.0.1 e k)
            | inr z ↦
                let r = row_back n ws v.0 v.1 in
                let ask = number_next s.0 a.0 a.1 in
                let put = number_next t.0 p.0 p.1 in
                let made : Quorums = record { votes = v.0.0; ask = vote_count a.0.0; put = vote_count p.0.0 } in
                out_of_range e _ (range_err (is_lawful made) made e z.2) (record {
                  votes = r.words;
                  ask = ask.0;
                  put = put.0;
                  all = row_words ws r.words v.0.1 s.0 a.0.1 t.0 p.0.1 ask.0 put.0 r.all (text_back (codes "ask") v.0.1 s.0 s.1) ask.1
                      (text_back (codes "put") a.0.1 t.0 t.1) put.1 (nothing_back p.0.1 z.0 z.1);
                  numbers = numerals r.words v.0.0 r.each;
                  count_is = as_many r.words v.0.0 r.each ∙ r.count;
                  asks = numeral_of ask.0 a.0.0 ask.2;
                  puts = numeral_of put.0 p.0.0 put.2;
                })
          ]
        ]
      ]
    ]
  ]
]

-- so many numbers are read
numbers_read : (n : ℕ) (ws rest : List (List ℕ)) → AreNumerals ws → length ws ≡ n → (row : List ℕ)
    × (numbers_in n (ws ++ rest) ≡ Ok (row, rest))
unfolding numbers_in
numbers_read zero [] rest h count = ([], refl)
numbers_read zero (w ∷ ws) rest h count = absurd (omega (arith, count))
numbers_read (suc n) [] rest h count = absurd (omega (arith, count))
numbers_read (suc n) (w ∷ ws) rest h count =
    let o = u64_of (decimal_value w) in
    let more = numbers_read n ws rest h.1 (omega (arith, count)) in (
      vote_count o ∷ more.0,
      ap (λ r. r >>= (λ (first : Found). numbers_in n first.1 >>= (λ (others : Rows). done (vote_count first.0 ∷ others.0, others.1))))
          (number_first w (ws ++ rest) o (numeral_read w h.0))
          ∙ ap (λ r. r >>= (λ (others : Rows). done (vote_count o ∷ others.0, others.1))) more.1,
    )

votes_known : (n : ℕ) (ws : List (List ℕ)) → HasVotesForm n ws → votes_in n ws ≡ Err UnknownCommand → ⊥
unfolding votes_in needed_text needed_word nothing_more
votes_known n ws h e =
    let a = u64_of (decimal_value h.ask) in
    let p = u64_of (decimal_value h.put) in
    let row = numbers_read n h.votes (codes "ask" ∷ h.ask ∷ codes "put" ∷ h.put ∷ []) h.numbers h.count_is in
    let read : votes_in n ws ≡ quorums_of row.0 (vote_count a) (vote_count p) =
    ap (votes_in n) h.all
    ∙ ap (λ r. r >>= behind_votes) row.1
    ∙ ap (λ r. r >>= behind_ask row.0) (number_first h.ask (codes "put" ∷ h.put ∷ []) a (numeral_read h.ask h.asks))
    ∙ ap (λ r. r >>= behind_put row.0 (vote_count a)) (number_first h.put [] p (numeral_read h.put h.puts)) in
    let made : Quorums = record { votes = row.0; ask = vote_count a; put = vote_count p } in
    let clash : UnknownCommand ≡ Range = range_err (is_lawful made) made UnknownCommand (sym read ∙ e) in
    cc

votes_told : (n : ℕ) (ws : List (List ℕ)) → Told (HasVotesForm n ws) (votes_in n ws)
votes_told n ws = told_by (HasVotesForm n ws) (votes_in n ws) (λ e h. votes_err n ws e h) (λ form h. votes_known n ws form h)

-- ---- a line after the lines before it

FormAt : List ℕ → List ℕ → Option ConfigSoFar → Type 0
FormAt verb args before = HasFormAfter verb (words args) (behind_three args) before

-- an answer without a fault, or with one of a form
abbrev Judged : (N Form : Type 0) → Result Said LineFault → Type 0
Judged N Form (Ok said) = Unit {0}
Judged N Form (Err NoReplicas) = N
Judged N Form (Err UnknownCommand) = (N → ⊥) × (Form → ⊥)
Judged N Form (Err Range) = Form
Judged N Form (Err _) = ⊥

judged : (N Form : Type 0) (r : Result Said LineFault) → (N → ⊥) → Told Form r → Judged N Form r
judged N Form (Ok said) never t = tt
judged N Form (Err UnknownCommand) never t = (never, t)
judged N Form (Err Range) never t = t
judged N Form (Err _) never t = absurd t

made : {X Y : Type 0} (F : Type 0) (r : Result X LineFault) (f : X → Y) → Told F r → Told F (r >>= (λ x. done (f x)))
made F (Ok x) f t = tt
made F (Err e) f t = t

-- which form a first word may have
replicas_only : (verb args : List ℕ) → FormAt verb args None → HasReplicasForm (words args)
unfolding FormAt
replicas_only verb args (replicas_form is h) = h

first_word : (verb args : List ℕ) → FormAt verb args None → verb ≡ codes "replicas"
unfolding FormAt
first_word verb args (replicas_form is h) = is

first_judged : (verb args : List ℕ) → Judged (LacksReplicas verb None) (FormAt verb args None) (said_in None verb args)
unfolding said_in first_said FormAt
first_judged verb args = by (bytes_eq verb (codes "replicas")) refl
  where
    by : (b : Bool) → bytes_eq verb (codes "replicas") ≡ b
        → Judged (LacksReplicas verb None) (FormAt verb args None)
        (cond b (replicas_in (words args) >>= (λ config. done (Opens (after_replicas config)))) (Err NoReplicas))
    by true e =
        let is = word_is verb (codes "replicas") e in
        let r : Result Said LineFault = replicas_in (words args) >>= (λ config. done (Opens (after_replicas config))) in
        judged (LacksReplicas verb None) (FormAt verb args None) r (λ lacks. lacks.other is)
        (lifted (HasReplicasForm (words args)) (FormAt verb args None) r (λ h. replicas_form is h) (λ h. replicas_only verb args h)
        (made (HasReplicasForm (words args)) (replicas_in (words args)) (λ config. Opens (after_replicas config))
        (replicas_told (words args))))
    by false e = record { first = refl; other = other verb (codes "replicas") e }

two_words : (a b verb : List ℕ) → verb ≡ a → verb ≡ b → bytes_eq a b ≡ false → ⊥
two_words a b verb h k apart = other a b apart (sym h ∙ k)

test_of : (verb name : List ℕ) → verb ≡ name → bytes_eq verb name ≡ false → ⊥
test_of verb name is apart = other verb name apart is

plain_form : (verb args : List ℕ) → HasForm verb (words args) (behind_three args) → IsPlain verb
plain_form verb args form = command_plain of_any_size verb (words args) (behind_three args) form.command form.spelled

no_second : (verb args : List ℕ) (o : ConfigSoFar) → verb ≡ codes "replicas" → FormAt verb args (Some o) → ⊥
unfolding FormAt
no_second verb args _ is (reads_form opened mode here first h) = two_words (codes "replicas") (codes "reads") verb is here refl
no_second verb args _ is (votes_form opened here may h) = two_words (codes "replicas") (codes "votes") verb is here refl
no_second verb args _ is (command_form opened h) = test_of verb (codes "replicas") is (plain_form verb args h).no_replicas

reads_only : (verb args : List ℕ) (o : ConfigSoFar) → verb ≡ codes "reads" → FormAt verb args (Some o) → (o.last ≡ last.Replicas)
    × ReadsForm (words args)
unfolding FormAt ReadsForm
reads_only verb args _ is (reads_form opened mode here first h) = (first, (mode, h))
reads_only verb args _ is (votes_form opened here may h) = absurd (two_words (codes "reads") (codes "votes") verb is here refl)
reads_only verb args _ is (command_form opened h) = absurd (test_of verb (codes "reads") is (plain_form verb args h).no_reads)

votes_only : (verb args : List ℕ) (o : ConfigSoFar) → verb ≡ codes "votes" → FormAt verb args (Some o) → MayVote o.last
    × HasVotesForm (length o.config.quorums.votes) (words args)
unfolding FormAt
votes_only verb args _ is (reads_form opened mode here first h) = absurd (two_words (codes "votes") (codes "reads") verb is here refl)
votes_only verb args _ is (votes_form opened here may h) = (may, h)
votes_only verb args _ is (command_form opened h) = absurd (test_of verb (codes "votes") is (plain_form verb args h).no_votes)

command_only : (verb args : List ℕ) (o : ConfigSoFar) → bytes_eq verb (codes "reads") ≡ false → bytes_eq verb (codes "votes") ≡ false
    → FormAt verb args (Some o) → HasForm verb (words args) (behind_three args)
unfolding FormAt
command_only verb args _ no_reads no_votes (reads_form opened mode here first h) = absurd (test_of verb (codes "reads") here no_reads)
command_only verb args _ no_reads no_votes (votes_form opened here may h) = absurd (test_of verb (codes "votes") here no_votes)
command_only verb args _ no_reads no_votes (command_form opened h) = h

reads_at : (verb args : List ℕ) (config : Config) (before : Last) → verb ≡ codes "reads"
    → Told (FormAt verb args (Some (record { config = config; last = before }))) (reads_said config before (words args))
unfolding reads_said ReadsForm FormAt
reads_at verb args config last.Replicas is =
    let o : ConfigSoFar = record { config = config; last = last.Replicas } in
    lifted (ReadsForm (words args)) (FormAt verb args (Some o)) (reads_in (words args) >>= (λ mode. done (after_reads config mode)))
    (λ h. reads_form o h.0 is refl h.1) (λ f. (reads_only verb args o is f).1)
    (made (ReadsForm (words args)) (reads_in (words args)) (after_reads config) (reads_told (words args)))
reads_at verb args config last.Reads is = λ f. let first =
    (reads_only verb args (record { config = config; last = last.Reads }) is f).0 in cc
reads_at verb args config last.Other is = λ f. let first =
    (reads_only verb args (record { config = config; last = last.Other }) is f).0 in cc

voted_at : (verb args : List ℕ) (config : Config) (before : Last) → verb ≡ codes "votes" → MayVote before
    → Told (FormAt verb args (Some (record { config = config; last = before }))) (votes_set config (words args))
unfolding votes_set FormAt
voted_at verb args config before is may =
    let o : ConfigSoFar = record { config = config; last = before } in
    let F = HasVotesForm (length config.quorums.votes) (words args) in
    let r = votes_in (length config.quorums.votes) (words args) in
    lifted F (FormAt verb args (Some o)) (r >>= (λ quorums. done (after_votes config quorums))) (λ h. votes_form o is may h)
    (λ f. (votes_only verb args o is f).1) (made F r (after_votes config) (votes_told (length config.quorums.votes) (words args)))

votes_at : (verb args : List ℕ) (config : Config) (before : Last) → verb ≡ codes "votes"
    → Told (FormAt verb args (Some (record { config = config; last = before }))) (votes_said config before (words args))
unfolding votes_said
votes_at verb args config last.Replicas is = voted_at verb args config last.Replicas is tt
votes_at verb args config last.Reads is = voted_at verb args config last.Reads is tt
votes_at verb args config last.Other is = λ f. (votes_only verb args (record { config = config; last = last.Other }) is f).0

command_told : (verb args : List ℕ) → Told (HasForm verb (words args) (behind_three args)) (command_in verb args)
command_told verb args = told_by (HasForm verb (words args) (behind_three args)) (command_in verb args)
    (λ e h. command_err verb args e h) (λ form h. command_known verb args form.command form.spelled h)

later_told : (verb args : List ℕ) (o : ConfigSoFar) → Told (FormAt verb args (Some o)) (said_in (Some o) verb args)
unfolding said_in FormAt
later_told verb args o = by (bytes_eq verb (codes "replicas")) (bytes_eq verb (codes "reads")) (bytes_eq verb (codes "votes")) refl refl
    refl
  where
    by : (a b c : Bool) → bytes_eq verb (codes "replicas") ≡ a → bytes_eq verb (codes "reads") ≡ b → bytes_eq verb (codes "votes") ≡ c
        → Told (FormAt verb args (Some o))
        (cond {A = Result Said LineFault} a (Err UnknownCommand)
        (cond b (reads_said o.config o.last (words args) >>= (λ set. done (Opens set)))
        (cond c (votes_said o.config o.last (words args) >>= (λ set. done (Opens set)))
        (command_in verb args >>= (λ command. done (Runs command))))))
    by true b c e f g = λ h. no_second verb args o (word_is verb (codes "replicas") e) h
    by false true c e f g = made (FormAt verb args (Some o)) (reads_said o.config o.last (words args)) Opens
        (reads_at verb args o.config o.last (word_is verb (codes "reads") f))
    by false false true e f g = made (FormAt verb args (Some o)) (votes_said o.config o.last (words args)) Opens
        (votes_at verb args o.config o.last (word_is verb (codes "votes") g))
    by false false false e f g =
        let H = HasForm verb (words args) (behind_three args) in
        lifted H (FormAt verb args (Some o)) (command_in verb args >>= (λ command. done (Runs command))) (λ h. command_form o h)
        (λ h. command_only verb args o f g h) (made H (command_in verb args) Runs (command_told verb args))

said_judged : (before : Option ConfigSoFar) (verb args : List ℕ)
    → Judged (LacksReplicas verb before) (FormAt verb args before) (said_in before verb args)
said_judged None verb args = first_judged verb args
said_judged (Some o) verb args =
    judged (LacksReplicas verb (Some o)) (FormAt verb args (Some o)) (said_in (Some o) verb args) (λ lacks. let none = lacks.first in cc)
    (later_told verb args o)

-- ---- what is said has a form

replicas_has : (ws : List (List ℕ)) (config : Config) → SaysReplicas ws config → HasReplicasForm ws
replicas_has ws config (alone w n is) = record { numbers = (is.digits, tt); least = omega arith; most = omega arith }
replicas_has ws config (with_calls w v n c is are) =
    record { numbers = (is.digits, (are.digits, tt)); least = omega arith; most = omega arith }
replicas_has ws config (with_flights w v u n c f is are be) =
    record { numbers = (is.digits, (are.digits, (be.digits, tt))); least = omega arith; most = omega arith }

values_numerals : (ws : List (List ℕ)) (ns : List ℕ) → AllZip IsNumeralOf ws ns → AreNumerals ws
values_numerals [] ns h = tt
values_numerals (w ∷ ws) [] h = absurd h
values_numerals (w ∷ ws) (n ∷ ns) h = (h.0.digits, values_numerals ws ns h.1)

values_many : (ws : List (List ℕ)) (ns : List ℕ) → AllZip IsNumeralOf ws ns → length ws ≡ length ns
values_many [] [] h = refl
values_many [] (n ∷ ns) h = absurd h
values_many (w ∷ ws) [] h = absurd h
values_many (w ∷ ws) (n ∷ ns) h = ap suc (values_many ws ns h.1)

votes_has : (count : ℕ) (ws : List (List ℕ)) (quorums : Quorums) → SaysVotes count ws quorums → HasVotesForm count ws
votes_has count ws quorums h =
    record {
      votes = h.votes;
      ask = h.ask;
      put = h.put;
      all = h.all;
      numbers = values_numerals h.votes quorums.votes h.each;
      count_is = values_many h.votes quorums.votes h.each ∙ h.count_is;
      asks = h.asks.digits;
      puts = h.puts.digits;
    }

form_said : (before : Option ConfigSoFar) (verb args : List ℕ) (said : Said)
    → SaysAfter verb (words args) (behind_three args) before said → FormAt verb args before
unfolding FormAt
form_said before verb args said (replicas config is h) = replicas_form is (replicas_has (words args) config h)
form_said before verb args said (reads old mode is first h) = reads_form old mode is first h
form_said before verb args said (votes old quorums is may h) =
    votes_form old is may (votes_has (length old.config.quorums.votes) (words args) quorums h)
form_said before verb args said (runs opened c h) = command_form opened (form_of_said verb (words args) (behind_three args) c h)

form_first : (before : Option ConfigSoFar) (verb args : List ℕ) → FormAt verb args before → LacksReplicas verb before → ⊥
form_first None verb args form lacks = lacks.other (first_word verb args form)
form_first (Some o) verb args form lacks = let none = lacks.first in cc

-- ---- the fault that is told is the one that there is

module _ (before : Option ConfigSoFar) (verb args : List ℕ) where
  which : (f : LineFault) → HasWordFault before verb args f → ((f ≡ NoReplicas) × LacksReplicas verb before)
      ⊎ (((f ≡ UnknownCommand) × (LacksReplicas verb before → ⊥) × (FormAt verb args before → ⊥))
      ⊎ ((f ≡ Range) × FormAt verb args before))
  unfolding FormAt
  which NoReplicas h = inl (refl, h)
  which UnknownCommand h = inr (inl (refl, h.0, h.1))
  which Range h = inr (inr (refl, h.0))
  which _ h = absurd h

  one : (f g : LineFault) → HasWordFault before verb args f → HasWordFault before verb args g → f ≡ g
  one f g h k =
      elim (which f h) [
        | inl a ↦ elim (which g k) [
          | inl b ↦ a.0 ∙ sym b.0
          | inr v ↦ elim v [ inl b ↦ absurd (b.1 a.1) | inr b ↦ absurd (form_first before verb args b.1 a.1) ]
        ]
        | inr u ↦ elim u [
          | inl a ↦ elim (which g k) [
            | inl b ↦ absurd (a.1 b.1)
            | inr v ↦ elim v [ inl b ↦ a.0 ∙ sym b.0 | inr b ↦ absurd (a.2 b.1) ]
          ]
          | inr a ↦ elim (which g k) [
            | inl b ↦ absurd (form_first before verb args a.1 b.1)
            | inr v ↦ elim v [ inl b ↦ absurd (b.2 a.1) | inr b ↦ a.0 ∙ sym b.0 ]
          ]
        ]
      ]

  told_fault : (g : LineFault) → said_in before verb args ≡ Err g → Judged (LacksReplicas verb before) (FormAt verb args before) (Err g)
      → HasWordFault before verb args g
  unfolding FormAt
  told_fault NoReplicas e t = t
  told_fault UnknownCommand e t = t
  told_fault Range e t = (t, λ said s. let there = said_there before verb args said s in cc)
  told_fault _ e t = absurd t

  never_said : (f : LineFault) (said : Said) → SaysAfter verb (words args) (behind_three args) before said
      → HasWordFault before verb args f → ⊥
  unfolding FormAt
  never_said NoReplicas said s h = form_first before verb args (form_said before verb args said s) h
  never_said UnknownCommand said s h = h.1 (form_said before verb args said s)
  never_said Range said s h = h.1 said s
  never_said _ said s h = h

  fault_by : (r : Result Said LineFault) (f : LineFault) → said_in before verb args ≡ r
      → Judged (LacksReplicas verb before) (FormAt verb args before) r → (r ≡ Err f) ↔ HasWordFault before verb args f
  fault_by (Ok said) f at t = (λ e. cc, λ h. absurd (never_said f said (said_back before verb args said at) h))
  fault_by (Err g) f at t =
      let P : LineFault → Type 0 = λ x. HasWordFault before verb args x in
      (λ e. let same : g ≡ f = cc in subst P same (told_fault g at t), λ h. ap (λ (x : LineFault). Err x) (one g f (told_fault g at t) h))

pub word_fault : (before : Option ConfigSoFar) (verb args : List ℕ) (f : LineFault) → (said_in before verb args ≡ Err f)
    ↔ HasWordFault before verb args f
word_fault before verb args f = fault_by before verb args (said_in before verb args) f refl (said_judged before verb args)
