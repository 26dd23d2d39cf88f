-- What words say as a command: the steps that read it, turned round.
use Rattle.std.proofs.Common.{ℕ, ◌≡◌, ◌≤◌, ◌<◌, ◌^◌, ◌&&◌, inl, inr, List, [], ◌∷◌, Bool, true}
use Rattle.std.proofs.Common.{false, cond, Option, Some, None, Result, Ok, Err, bytes_eq, nat_le}
use Rattle.std.proofs.Common.{refl, ap, ◌∙◌, arith}
use Rattle.std.specs.Cmp.Lexicographic.{bytes_decides}
use Rattle.fault_script.specs.declared.fault.LineFault.{LineFault}
use Rattle.fault_script.specs.declared.fault.LineFault.TheVariants.{UnknownCommand}
use Rattle.fault_script.specs.Words.{is_numeral, decimal_value, u64_of, number_of}
use Rattle.counted_devices.specs.Answers.{◌>>=◌}
use Rattle.fault_script.specs.Says.{needed_text, needed_word, nothing_more, needed_number, one_number, in_range, within}
use Rattle.fault_script.specs.Forms.{IsNumber, One}
use Rattle.fault_script.proofs.NumberLemmas.{range_decides, small-u64_of, u64_of-small}
use Rattle.fault_script.proofs.Chains.{after, done, inside, picked}

-- a test of a word, and the word
pub word_is : (word text : List ℕ) → bytes_eq word text ≡ true → word ≡ text
word_is word text e = (bytes_decides word text).0 e

pub range_back : {X : Type 0} (b : Bool) (x y : X) → in_range b x ≡ Ok y → (b ≡ true) × (x ≡ y)
range_back true x y e = (refl, cc)
range_back false x y e = absurd (cc)

pub range_there : {X : Type 0} (b : Bool) (x : X) → b ≡ true → in_range b x ≡ Ok x
range_there true x e = refl
range_there false x e = absurd (cc)

within_back : (least most : ℕ) (o : Option ℕ) (n : ℕ) → within least most o ≡ Ok n → (o ≡ Some n) × (least ≤ n) × (n ≤ most)
unfolding within
within_back least most None n e = absurd (cc)
within_back least most (Some m) n e =
    let w = range_back (nat_le least m && nat_le m most) m n e in
    let t = (range_decides least most m).0 w.0 in
    (ap Some w.1, omega (arith, w.1, t.0), omega (arith, w.1, t.1))

within_there : (least most n : ℕ) → least ≤ n → n ≤ most → within least most (Some n) ≡ Ok n
unfolding within
within_there least most n low high = range_there (nat_le least n && nat_le n most) n ((range_decides least most n).1 (low, high))

pub number_by : (word : List ℕ) (b : Bool) (o : Option ℕ) → cond b (Ok (u64_of (decimal_value word))) (Err UnknownCommand) ≡ done o
    → (b ≡ true) × (u64_of (decimal_value word) ≡ o)
number_by word true o e = (refl, inside (u64_of (decimal_value word)) o e)
number_by word false o e = absurd (cc)

pub number_back : (least most : ℕ) (word : List ℕ) (o : Option ℕ) (n : ℕ) → number_of word ≡ Ok o → within least most o ≡ Ok n
    → IsNumber least most word n
unfolding number_of
number_back least most word o n e h =
    let w = number_by word (is_numeral word) o e in
    let t = within_back least most o n h in
    let s = small-u64_of (decimal_value word) n (w.1 ∙ t.0) in
    record { digits = w.0; value = s.1; low = t.1; high = t.2 }

pub number_there : (least most : ℕ) (word : List ℕ) (n : ℕ) → most < 2 ^ 64 → IsNumber least most word n → number_of word ≡ Ok (Some n)
unfolding number_of
number_there least most word n fits is =
    ap (λ (b : Bool). cond {A = Result (Option ℕ) LineFault} b (Ok (u64_of (decimal_value word))) (Err UnknownCommand)) is.digits
    ∙ ap (λ (o : Option ℕ). done o) (ap u64_of is.value ∙ u64_of-small n (omega (arith, is.high)))

pub number_in_range : (least most : ℕ) (word : List ℕ) (n : ℕ) → IsNumber least most word n → within least most (Some n) ≡ Ok n
number_in_range least most word n is = within_there least most n is.low is.high

pub nothing_back : (ws : List (List ℕ)) (u : Unit {0}) → nothing_more ws ≡ Ok u → ws ≡ []
unfolding nothing_more
nothing_back [] u e = refl
nothing_back (w ∷ ws) u e = absurd (cc)

abbrev Pair : Type 0
Pair = List ℕ × List (List ℕ)

pub word_back : (ws : List (List ℕ)) (x : Pair) → needed_word ws ≡ Ok x → ws ≡ x.0 ∷ x.1
unfolding needed_word
word_back [] x e = absurd (cc)
word_back (w ∷ ws) x e =
    let p = inside (w, ws) x e in
    let first : w ≡ x.0 = ap (λ (y : Pair). y.0) p in
    let rest : ws ≡ x.1 = ap (λ (y : Pair). y.1) p in
    cc

abbrev pub Found : Type 0
Found = Option ℕ × List (List ℕ)

-- the next word, which is a number
pub number_next : (ws : List (List ℕ)) (x : Found) → needed_number ws ≡ Ok x → (w : List ℕ) × (ws ≡ w ∷ x.1) × (number_of w ≡ Ok x.0)
unfolding needed_number
number_next ws x e =
    let a = after (needed_word ws) _ x e in
    let b = after (number_of a.0.0) _ x a.2 in
    let p = inside (b.0, a.0.1) x b.2 in
    let first : b.0 ≡ x.0 = ap (λ (y : Found). y.0) p in
    let rest : a.0.1 ≡ x.1 = ap (λ (y : Found). y.1) p in
    let all = word_back ws a.0 a.1 in
    (a.0.0, all ∙ ap (λ (l : List (List ℕ)). a.0.0 ∷ l) rest, b.1 ∙ ap (λ (o : Option ℕ). done o) first)

pub number_first : (w : List ℕ) (ws : List (List ℕ)) (o : Option ℕ) → number_of w ≡ Ok o → needed_number (w ∷ ws) ≡ Ok (o, ws)
unfolding needed_number needed_word
number_first w ws o e = ap (λ r. r >>= (λ number. done (number, ws))) e

-- one number is all
pub one_back : (least most : ℕ) (ws : List (List ℕ)) (o : Option ℕ) (n : ℕ) → one_number ws ≡ Ok o → within least most o ≡ Ok n
    → One (IsNumber least most) ws n
unfolding one_number
one_back least most ws o n e h =
    let a = after (needed_number ws) _ o e in
    let b = after (nothing_more a.0.1) _ o a.2 in
    let same : a.0.0 ≡ o = inside a.0.0 o b.2 in
    let w = number_next ws a.0 a.1 in
    let none = nothing_back a.0.1 b.0 b.1 in
    record {
      word = w.0;
      all = w.1 ∙ ap (λ (l : List (List ℕ)). w.0 ∷ l) none;
      is = number_back least most w.0 o n (w.2 ∙ ap (λ (x : Option ℕ). done x) same) h;
    }

pub one_there : (least most : ℕ) (ws : List (List ℕ)) (n : ℕ) → most < 2 ^ 64 → One (IsNumber least most) ws n → one_number ws ≡ Ok (Some n)
unfolding one_number nothing_more
one_there least most ws n fits h =
    ap one_number h.all ∙ ap (λ r. r >>= (λ (number : Found). nothing_more number.1 >>= (λ nothing. done number.0)))
    (number_first h.word [] (Some n) (number_there least most h.word n fits h.is))

-- the next word is that one
pub text_back : (text : List ℕ) (ws others : List (List ℕ)) → needed_text text ws ≡ Ok others → ws ≡ text ∷ others
unfolding needed_text
text_back text ws others e =
    let k = after (needed_word ws) _ others e in
    let all = word_back ws k.0 k.1 in
    elim (picked (bytes_eq k.0.0 text) (Ok k.0.1) (Err UnknownCommand) others k.2) [
      | inl w ↦ let name = word_is k.0.0 text w.0 in let rest = inside k.0.1 others w.1 in all ∙ (λ i. name i ∷ rest i)
      | inr e2 ↦ absurd (cc)
    ]
