-- What words say as a line of the configuration: the steps that read it, turned round.
use Rattle.std.proofs.Common.{ℕ, zero, suc, ◌≡◌, ◌≤◌, ◌<◌, ◌^◌, ◌*◌, inl, inr, List, [], ◌∷◌, ◌++◌}
use Rattle.std.proofs.Common.{length, sum, Bool, cond, Option, Some, None, Result, Ok, Err, codes}
use Rattle.std.proofs.Common.{bytes_eq, refl, sym, ap, ◌∙◌, subst, arith}
use Rattle.std.specs.Prelude.{All}
use Rattle.std.specs.List.{AllZip}
use Rattle.std.proofs.lemmas.List.Sums.{sum_by-le}
use Rattle.client_phases.specs.declared.rules.ReadMode.{ReadMode}
use Rattle.client_phases.specs.declared.rules.ReadMode.TheVariants.{Full, Short}
use Rattle.quorum.specs.Quorums.{Quorums, IsLawful}
use Rattle.world_steps.specs.Configs.{Config, config_of}
use Rattle.fault_script.specs.declared.fault.LineFault.{LineFault}
use Rattle.fault_script.specs.declared.fault.LineFault.TheVariants.{UnknownCommand}
use Rattle.fault_script.specs.Words.{is_numeral, decimal_value, u64_of, number_of}
use Rattle.counted_devices.specs.Answers.{◌>>=◌}
use Rattle.fault_script.specs.Says.{needed_word, needed_number, needed_text, nothing_more, number_or, within}
use Rattle.fault_script.specs.Settings.{config_in, replicas_in, mode_of, reads_in, vote_count, numbers_in, is_lawful, quorums_of, votes_in}
use Rattle.fault_script.specs.Forms.{IsNumber, IsNumeralOf}
use Rattle.fault_script.specs.SettingForms.{SaysReplicas, alone, with_calls, with_flights, SaysReads, SaysVotes}
use Rattle.fault_script.proofs.NumberLemmas.{small-u64_of, u64_of-small}
use Rattle.fault_script.proofs.VoteLemmas.{lawful_decides}
use Rattle.fault_script.proofs.Chains.{after, done, inside, picked}
use Rattle.fault_script.proofs.ReadingBack.{word_is, range_back, range_there, number_back}
use Rattle.fault_script.proofs.ReadingBack.{number_there, number_in_range, nothing_back, word_back}
use Rattle.fault_script.proofs.ReadingBack.{Found, number_next, number_first, number_by, text_back}

pub reads_back : (ws : List (List ℕ)) (mode : ReadMode) → reads_in ws ≡ Ok mode → SaysReads ws mode
unfolding reads_in mode_of
reads_back ws mode e =
    let k = after (needed_word ws) _ mode e in
    let n = after (nothing_more k.0.1) _ mode k.2 in
    let all = word_back ws k.0 k.1 in
    let none = nothing_back k.0.1 n.0 n.1 in
    let P : ReadMode → Type 0 = λ m. SaysReads ws m in
    elim (picked (bytes_eq k.0.0 (codes "full")) (Ok Full) _ mode n.2) [
      | inl w ↦ let name = word_is k.0.0 (codes "full") w.0 in subst P (inside Full mode w.1) (all ∙ (λ i. name i ∷ none i))
      | inr e2 ↦ elim (picked (bytes_eq k.0.0 (codes "short")) (Ok Short) _ mode e2) [
        | inl w ↦ let name = word_is k.0.0 (codes "short") w.0 in subst P (inside Short mode w.1) (all ∙ (λ i. name i ∷ none i))
        | inr e3 ↦ absurd (cc)
      ]
    ]

pub reads_there : (ws : List (List ℕ)) (mode : ReadMode) → SaysReads ws mode → reads_in ws ≡ Ok mode
unfolding reads_in mode_of needed_word nothing_more
reads_there ws Full h = ap reads_in h
reads_there ws Short h = ap reads_in h

-- the numbers of `replicas`
numbers_back : (o p q : Option ℕ) (config : Config) → config_in o p q ≡ Ok config → (l : ℕ) × (m : ℕ) × (n : ℕ) × (within 1 15 o ≡ Ok l)
    × (within 1 1000000 p ≡ Ok m) × (within 1 16000000 q ≡ Ok n) × (config_of l m n ≡ config)
unfolding config_in
numbers_back o p q config e =
    let l = after (within 1 15 o) _ config e in
    let m = after (within 1 1000000 p) _ config l.2 in
    let n = after (within 1 16000000 q) _ config m.2 in
    (l.0, m.0, n.0, l.1, m.1, n.1, inside (config_of l.0 m.0 n.0) config n.2)

default_of : (d least most n : ℕ) → within least most (Some d) ≡ Ok n → d ≡ n
unfolding within
default_of d least most n e = (range_back _ d n e).1

-- a number that may be missing
data Given (d : ℕ) (ws : List (List ℕ)) (x : Found) : Type 0 where
  missing : ws ≡ [] → x ≡ (Some d, []) → Given d ws x
  given : (w : List ℕ) → ws ≡ w ∷ x.1 → number_of w ≡ Ok x.0 → Given d ws x

given_back : (d : ℕ) (ws : List (List ℕ)) (x : Found) → number_or d ws ≡ Ok x → Given d ws x
unfolding number_or
given_back d [] x e = missing refl (sym (inside (Some d, []) x e))
given_back d (w ∷ ws) x e = let n = number_next (w ∷ ws) x e in given n.0 n.1 n.2

-- what is said of some words is said of the same words
words_are : (ws vs : List (List ℕ)) (config : Config) → ws ≡ vs → SaysReplicas vs config → SaysReplicas ws config
words_are ws vs config e says = let P : List (List ℕ) → Type 0 = λ l. SaysReplicas l config in subst P (sym e) says

-- a number that is missing is the one that stands for it
given_as : (d most n : ℕ) (rest : List (List ℕ)) (x : Found) → x ≡ (Some d, rest) → within 1 most x.0 ≡ Ok n → d ≡ n
given_as d most n rest x is e = default_of d 1 most n (ap (within 1 most) (sym (ap (λ (y : Found). y.0) is)) ∙ e)

replicas_by : (ws : List (List ℕ)) (w : List ℕ) (a c f : Found) (l m n : ℕ) → ws ≡ w ∷ a.1 → number_of w ≡ Ok a.0 → f.1 ≡ []
    → within 1 15 a.0 ≡ Ok l → within 1 1000000 c.0 ≡ Ok m → within 1 16000000 f.0 ≡ Ok n → Given 1000000 a.1 c → Given 4000000 c.1 f
    → SaysReplicas ws (config_of l m n)
replicas_by ws w a c f l m n all first none e1 e2 e3 (missing no_calls is_calls) (missing no_flights is_flights) =
    let P : ℕ → Type 0 = λ k. SaysReplicas ws (config_of l k n) in
    let Q : ℕ → Type 0 = λ k. SaysReplicas ws (config_of l 1000000 k) in
    subst P (given_as 1000000 1000000 m [] c is_calls e2) (subst Q (given_as 4000000 16000000 n [] f is_flights e3)
    (words_are ws (w ∷ []) _ (all ∙ ap (λ (x : List (List ℕ)). w ∷ x) no_calls) (alone w l (number_back 1 15 w a.0 l first e1))))
replicas_by ws w a c f l m n all first none e1 e2 e3 (missing no_calls is_calls) (given v more second) =
    let nothing : c.1 ≡ [] = ap (λ (x : Found). x.1) is_calls in
    let clash : [] ≡ v ∷ f.1 = sym nothing ∙ more in
    absurd (cc)
replicas_by ws w a c f l m n all first none e1 e2 e3 (given v more second) (missing no_flights is_flights) =
    let Q : ℕ → Type 0 = λ k. SaysReplicas ws (config_of l m k) in
    subst Q (given_as 4000000 16000000 n [] f is_flights e3)
    (words_are ws (w ∷ v ∷ []) _ (all ∙ ap (λ (x : List (List ℕ)). w ∷ x) (more ∙ ap (λ (x : List (List ℕ)). v ∷ x) no_flights))
    (with_calls w v l m (number_back 1 15 w a.0 l first e1) (number_back 1 1000000 v c.0 m second e2)))
replicas_by ws w a c f l m n all first none e1 e2 e3 (given v more second) (given u most last) =
    words_are ws (w ∷ v ∷ u ∷ []) _ (all
    ∙ ap (λ (x : List (List ℕ)). w ∷ x) (more ∙ ap (λ (x : List (List ℕ)). v ∷ x) (most ∙ ap (λ (x : List (List ℕ)). u ∷ x) none)))
    (with_flights w v u l m n (number_back 1 15 w a.0 l first e1) (number_back 1 1000000 v c.0 m second e2)
    (number_back 1 16000000 u f.0 n last e3))

pub replicas_back : (ws : List (List ℕ)) (config : Config) → replicas_in ws ≡ Ok config → SaysReplicas ws config
unfolding replicas_in
replicas_back ws config e =
    let a = after (needed_number ws) _ config e in
    let c = after (number_or 1000000 a.0.1) _ config a.2 in
    let f = after (number_or 4000000 c.0.1) _ config c.2 in
    let n = after (nothing_more f.0.1) _ config f.2 in
    let w = number_next ws a.0 a.1 in
    let k = numbers_back a.0.0 c.0.0 f.0.0 config n.2 in
    let P : Config → Type 0 = λ x. SaysReplicas ws x in
    subst P k.6 (replicas_by ws w.0 a.0 c.0 f.0 k.0 k.1 k.2 w.1 w.2 (nothing_back f.0.1 n.0 n.1) k.3 k.4 k.5
    (given_back 1000000 a.0.1 c.0 c.1) (given_back 4000000 c.0.1 f.0 f.1))

number_is : (least most : ℕ) (word : List ℕ) (n : ℕ) (rest : List (List ℕ)) → most < 2 ^ 64 → IsNumber least most word n
    → needed_number (word ∷ rest) ≡ Ok (Some n, rest)
number_is least most word n rest fits is = number_first word rest (Some n) (number_there least most word n fits is)

config_there : (l m n : ℕ) → within 1 15 (Some l) ≡ Ok l → within 1 1000000 (Some m) ≡ Ok m → within 1 16000000 (Some n) ≡ Ok n
    → config_in (Some l) (Some m) (Some n) ≡ Ok (config_of l m n)
unfolding config_in
config_there l m n e1 e2 e3 =
    ap (λ r. r >>= (λ a. within 1 1000000 (Some m) >>= (λ b. within 1 16000000 (Some n) >>= (λ c. done (config_of a b c))))) e1
    ∙ ap (λ r. r >>= (λ b. within 1 16000000 (Some n) >>= (λ c. done (config_of l b c)))) e2
    ∙ ap (λ r. r >>= (λ c. done (config_of l m c))) e3

calls_default : within 1 1000000 (Some 1000000) ≡ Ok 1000000
unfolding within
calls_default = refl

flights_default : within 1 16000000 (Some 4000000) ≡ Ok 4000000
unfolding within
flights_default = refl

abbrev behind_flights : Option ℕ → Option ℕ → Found → Result Config LineFault
behind_flights l m f = nothing_more f.1 >>= (λ nothing. config_in l m f.0)

abbrev behind_calls : Option ℕ → Found → Result Config LineFault
behind_calls l c = number_or 4000000 c.1 >>= (λ f. behind_flights l c.0 f)

abbrev behind_first : Found → Result Config LineFault
behind_first a = number_or 1000000 a.1 >>= (λ c. behind_calls a.0 c)

pub replicas_there : (ws : List (List ℕ)) (config : Config) → SaysReplicas ws config → replicas_in ws ≡ Ok config
unfolding replicas_in number_or nothing_more
replicas_there ws config (alone w n is) =
    ap (λ r. r >>= behind_first) (number_is 1 15 w n [] (omega arith) is)
    ∙ config_there n 1000000 4000000 (number_in_range 1 15 w n is) calls_default flights_default
replicas_there ws config (with_calls w v n calls is are) =
    ap (λ r. r >>= behind_first) (number_is 1 15 w n (v ∷ []) (omega arith) is)
    ∙ ap (λ r. r >>= behind_calls (Some n)) (number_is 1 1000000 v calls [] (omega arith) are)
    ∙ config_there n calls 4000000 (number_in_range 1 15 w n is) (number_in_range 1 1000000 v calls are) flights_default
replicas_there ws config (with_flights w v u n calls flights is are be) =
    ap (λ r. r >>= behind_first) (number_is 1 15 w n (v ∷ u ∷ []) (omega arith) is)
    ∙ ap (λ r. r >>= behind_calls (Some n)) (number_is 1 1000000 v calls (u ∷ []) (omega arith) are)
    ∙ ap (λ r. r >>= behind_flights (Some n) (Some calls)) (number_is 1 16000000 u flights [] (omega arith) be)
    ∙ config_there n calls flights (number_in_range 1 15 w n is) (number_in_range 1 1000000 v calls are)
    (number_in_range 1 16000000 u flights be)

-- votes: the words, and what they count as
unfoldable pub Counts : List ℕ → ℕ → Type 0
Counts word v = (o : Option ℕ) × (number_of word ≡ Ok o) × (vote_count o ≡ v)

pub record Row (n : ℕ) (ws : List (List ℕ)) (votes : List ℕ) (rest : List (List ℕ)) : Type 0 where
  pub words : List (List ℕ)
  pub all : ws ≡ words ++ rest
  pub each : AllZip Counts words votes
  pub count : length votes ≡ n

abbrev pub Rows : Type 0
Rows = List ℕ × List (List ℕ)

pub row_back : (n : ℕ) (ws : List (List ℕ)) (x : Rows) → numbers_in n ws ≡ Ok x → Row n ws x.0 x.1
unfolding numbers_in Counts
row_back zero ws x e =
    let p = inside ([], ws) x e in
    let P : Rows → Type 0 = λ y. Row 0 ws y.0 y.1 in
    subst P p (record { words = []; all = refl; each = tt; count = refl })
row_back (suc n) ws x e =
    let a = after (needed_number ws) _ x e in
    let b = after (numbers_in n a.0.1) _ x a.2 in
    let p = inside (vote_count a.0.0 ∷ b.0.0, b.0.1) x b.2 in
    let w = number_next ws a.0 a.1 in
    let r = row_back n a.0.1 b.0 b.1 in
    let P : Rows → Type 0 = λ y. Row (suc n) ws y.0 y.1 in
    subst P p (record {
      words = w.0 ∷ r.words;
      all = w.1 ∙ ap (λ (l : List (List ℕ)). w.0 ∷ l) r.all;
      each = ((a.0.0, w.2, refl), r.each);
      count = omega (arith, r.count);
    })

vote_count_small : (o : Option ℕ) (v : ℕ) → vote_count o ≡ v → v < 255 → o ≡ Some v
vote_count_small None v e lt = absurd (omega arith)
vote_count_small (Some n) v e lt = let same : n ≡ v = omega arith in ap Some same

value_back : (word : List ℕ) (v : ℕ) → Counts word v → v < 255 → IsNumeralOf word v
unfolding Counts number_of
value_back word v c lt =
    let w = number_by word (is_numeral word) c.0 c.1 in
    let s = small-u64_of (decimal_value word) v (w.1 ∙ vote_count_small c.0 v c.2 lt) in
    record { digits = w.0; value = s.1 }

value_there : (word : List ℕ) (v : ℕ) → v < 255 → IsNumeralOf word v → number_of word ≡ Ok (Some v)
unfolding number_of
value_there word v lt is =
    ap (λ (b : Bool). cond {A = Result (Option ℕ) LineFault} b (Ok (u64_of (decimal_value word))) (Err UnknownCommand)) is.digits
    ∙ ap (λ (o : Option ℕ). done o) (ap u64_of is.value ∙ u64_of-small v (omega arith))

vote_count_same : (v : ℕ) → v < 255 → vote_count (Some v) ≡ v
vote_count_same v lt = omega arith

abbrev FewEach : List ℕ → Type 0
FewEach votes = All (λ v. (1 ≤ v) × (v ≤ 9)) votes

few_tail : (v : ℕ) (votes : List ℕ) → FewEach (v ∷ votes) → FewEach votes
few_tail v votes h k d lt = h (suc k) d (omega arith)

few_head : (v : ℕ) (votes : List ℕ) → FewEach (v ∷ votes) → v ≤ 9
few_head v votes h = (h 0 0 (omega arith)).1

values_back : (ws : List (List ℕ)) (votes : List ℕ) → FewEach votes → AllZip Counts ws votes → AllZip IsNumeralOf ws votes
values_back [] [] few h = tt
values_back [] (v ∷ votes) few h = h
values_back (w ∷ ws) [] few h = h
values_back (w ∷ ws) (v ∷ votes) few h =
    (value_back w v h.0 (omega (arith, few_head v votes few)), values_back ws votes (few_tail v votes few) h.1)

row_there : (n : ℕ) (ws : List (List ℕ)) (votes : List ℕ) (rest : List (List ℕ)) → FewEach votes → AllZip IsNumeralOf ws votes
    → length votes ≡ n → numbers_in n (ws ++ rest) ≡ Ok (votes, rest)
unfolding numbers_in
row_there zero [] [] rest few h count = refl
row_there zero [] (v ∷ votes) rest few h count = absurd (omega arith)
row_there zero (w ∷ ws) [] rest few h count = absurd h
row_there zero (w ∷ ws) (v ∷ votes) rest few h count = absurd (omega arith)
row_there (suc n) [] [] rest few h count = absurd (omega arith)
row_there (suc n) [] (v ∷ votes) rest few h count = absurd h
row_there (suc n) (w ∷ ws) [] rest few h count = absurd h
row_there (suc n) (w ∷ ws) (v ∷ votes) rest few h count =
    let lt : v < 255 = omega (arith, few_head v votes few) in
    ap (λ r. r >>= (λ (first : Found). numbers_in n first.1 >>= (λ (others : Rows). done (vote_count first.0 ∷ others.0, others.1))))
    (number_first w (ws ++ rest) (Some v) (value_there w v lt h.0))
    ∙ ap (λ r. r >>= (λ (others : Rows). done (vote_count (Some v) ∷ others.0, others.1)))
    (row_there n ws votes rest (few_tail v votes few) h.1 (omega arith))
    ∙ ap (λ (k : ℕ). done (k ∷ votes, rest)) (vote_count_same v lt)

each_most : (votes : List ℕ) → FewEach votes → All (λ v. v ≤ 9) votes
each_most votes few k d lt = (few k d lt).1

sum_few : (votes : List ℕ) → FewEach votes → sum votes ≤ length votes * 9
sum_few votes few = sum_by-le (λ v. v) 9 votes (each_most votes few)

quorum_small : (q : Quorums) → IsLawful q → (q.ask < 255) × (q.put < 255)
quorum_small q l = (
  omega (arith, sum_few q.votes l.each_votes, l.most_ask, l.most_replicas),
  omega (arith, sum_few q.votes l.each_votes, l.most_put, l.most_replicas),
)

-- the words of such a line, part by part
pub row_words : (ws votes behind_votes asking behind_ask putting behind_put : List (List ℕ)) (ask put : List ℕ) → ws ≡ votes
    ++ behind_votes → behind_votes ≡ codes "ask" ∷ asking → asking ≡ ask ∷ behind_ask → behind_ask ≡ codes "put" ∷ putting → putting
    ≡ put ∷ behind_put → behind_put ≡ [] → ws ≡ votes ++ codes "ask" ∷ ask ∷ codes "put" ∷ put ∷ []
row_words ws votes behind_votes asking behind_ask putting behind_put ask put a b d e f g = cc

pub votes_back : (n : ℕ) (ws : List (List ℕ)) (q : Quorums) → votes_in n ws ≡ Ok q → SaysVotes n ws q
unfolding votes_in Counts
votes_back n ws q e =
    let v = after (numbers_in n ws) _ q e in
    let s = after (needed_text (codes "ask") v.0.1) _ q v.2 in
    let a = after (needed_number s.0) _ q s.2 in
    let t = after (needed_text (codes "put") a.0.1) _ q a.2 in
    let p = after (needed_number t.0) _ q t.2 in
    let z = after (nothing_more p.0.1) _ q p.2 in
    let r = row_back n ws v.0 v.1 in
    let asking = text_back (codes "ask") v.0.1 s.0 s.1 in
    let ask = number_next s.0 a.0 a.1 in
    let putting = text_back (codes "put") a.0.1 t.0 t.1 in
    let put = number_next t.0 p.0 p.1 in
    let none = nothing_back p.0.1 z.0 z.1 in
    let made : Quorums = record { votes = v.0.0; ask = vote_count a.0.0; put = vote_count p.0.0 } in
    let w = range_back (is_lawful made) made q z.2 in
    let lawful = (lawful_decides made).0 w.0 in
    let small = quorum_small made lawful in
    let P : Quorums → Type 0 = λ x. SaysVotes n ws x in
    subst P w.1 (record {
      votes = r.words;
      ask = ask.0;
      put = put.0;
      all = row_words ws r.words v.0.1 s.0 a.0.1 t.0 p.0.1 ask.0 put.0 r.all asking ask.1 putting put.1 none;
      each = values_back r.words v.0.0 lawful.each_votes r.each;
      count_is = r.count;
      asks = value_back ask.0 (vote_count a.0.0) (a.0.0, ask.2, refl) small.0;
      puts = value_back put.0 (vote_count p.0.0) (p.0.0, put.2, refl) small.1;
      lawful = lawful;
    })

-- what stands after the votes
abbrev pub behind_put : List ℕ → ℕ → Found → Result Quorums LineFault
behind_put votes ask put = nothing_more put.1 >>= (λ nothing. quorums_of votes ask (vote_count put.0))

abbrev pub behind_ask : List ℕ → Found → Result Quorums LineFault
behind_ask votes ask = needed_text (codes "put") ask.1 >>=
    (λ putting. needed_number putting >>= (λ put. behind_put votes (vote_count ask.0) put))

abbrev pub behind_votes : Rows → Result Quorums LineFault
behind_votes votes = needed_text (codes "ask") votes.1 >>= (λ asking. needed_number asking >>= (λ ask. behind_ask votes.0 ask))

quorums_there : (q : Quorums) → IsLawful q → quorums_of q.votes q.ask q.put ≡ Ok q
quorums_there q lawful = range_there (is_lawful q) q ((lawful_decides q).1 lawful)

pub votes_there : (n : ℕ) (ws : List (List ℕ)) (q : Quorums) → SaysVotes n ws q → votes_in n ws ≡ Ok q
unfolding votes_in needed_text needed_word nothing_more
votes_there n ws q h =
    let small = quorum_small q h.lawful in
    ap (votes_in n) h.all
    ∙ ap (λ r. r >>= behind_votes)
    (row_there n h.votes q.votes (codes "ask" ∷ h.ask ∷ codes "put" ∷ h.put ∷ []) h.lawful.each_votes h.each h.count_is)
    ∙ ap (λ r. r >>= behind_ask q.votes)
    (number_first h.ask (codes "put" ∷ h.put ∷ []) (Some q.ask) (value_there h.ask q.ask small.0 h.asks))
    ∙ ap (λ r. r >>= behind_put q.votes (vote_count (Some q.ask)))
    (number_first h.put [] (Some q.put) (value_there h.put q.put small.1 h.puts))
    ∙ (λ i. quorums_of q.votes (vote_count_same q.ask small.0 i) (vote_count_same q.put small.1 i))
    ∙ quorums_there q h.lawful
