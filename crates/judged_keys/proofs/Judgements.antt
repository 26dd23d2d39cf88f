-- Judged keys, one more at the end, and those first that are refused.
use Rattle.std.proofs.Common.{◌≡◌, ◌≤◌, ◌+◌, ◌||◌, Bool, true, false, cond, not, List, [], ◌∷◌, ◌++◌, All, length, map, refl, sym, ap, ap₂, ◌∙◌, arith, length-append}
use Rattle.std.specs.List.{Contains}
use Rattle.cli.proofs.Entries.{contains_head, contains_tail}
use Rattle.std.proofs.lemmas.List.{map-append}
use Rattle.std.proofs.lemmas.List.Elements.{All-append, All-cons, All-nil, filter-append}
use Rattle.std.proofs.lemmas.List.Folds.{list_any-append}
use Rattle.parallel_keys.specs.CheckedKeys.{CheckedKey}
use Rattle.judged_keys.specs.Findings.{IsFinding, is_refused, is_undecided}
use Rattle.judged_keys.specs.Judgements.{AreJudged, Judgement, has_undecided, judgement_of, others_of, refused_count, refused_of}
use Rattle.judged_keys.specs.declared.finding.JudgedKey.{JudgedKey}
use Rattle.judged_keys.specs.declared.judged.Judged.{Judged}

-- one key more
pub judged_more : (judged : Judged) (keys more : List CheckedKey) (js : List Judgement) (j : Judgement) → more ≡ keys ++ j.one ∷ [] → IsFinding judged j.one j.finding → AreJudged judged keys js → AreJudged judged more (js ++ j ∷ [])
judged_more judged keys more js j are_more found so_far =
    let Found = λ (k : Judgement). IsFinding judged k.one k.finding in
    record {
      each_key = map-append (λ (k : Judgement). k.one) js (j ∷ []) ∙ ap (λ (l : List CheckedKey). l ++ j.one ∷ []) so_far.each_key ∙ sym are_more;
      found = All-append Found js (j ∷ []) so_far.found (All-cons Found j [] found (All-nil Found));
    }

-- how many are refused of two lists, and whether one is undecided
pub refused_count-append : (js ks : List Judgement) → refused_count (js ++ ks) ≡ refused_count js + refused_count ks
refused_count-append js ks = ap length (filter-append (λ (j : Judgement). is_refused j.finding) js ks) ∙ length-append (refused_of js) (refused_of ks)

pub has_undecided-append : (js ks : List Judgement) → has_undecided (js ++ ks) ≡ (has_undecided js || has_undecided ks)
has_undecided-append js ks = list_any-append (λ (j : Judgement). is_undecided j.finding) js ks

-- the keys were judged, and stand in two lists, of those that are refused and of the others
pub record AreParted (judged : Judged) (keys : List CheckedKey) (refused others : List JudgedKey) (undecided : Bool) : Type 0 where
  pub all : List Judgement
  pub judged_are : AreJudged judged keys all
  pub refused_are : map judgement_of refused ≡ refused_of all
  pub others_are : map judgement_of others ≡ others_of all
  pub undecided_is : undecided ≡ has_undecided all

-- where none is refused, each of them is not
pub none_refused : (js : List Judgement) → refused_count js ≡ 0 → All (λ j. is_refused j.finding ≡ false) js
none_refused [] none = All-nil (λ (j : Judgement). is_refused j.finding ≡ false)
none_refused (j ∷ js) none = by (is_refused j.finding) refl none (none_refused js)
  where
    by : (b : Bool) → is_refused j.finding ≡ b → length (cond b (j ∷ refused_of js) (refused_of js)) ≡ 0 → (refused_count js ≡ 0 → All (λ k. is_refused k.finding ≡ false) js) → All (λ k. is_refused k.finding ≡ false) (j ∷ js)
    by true is some later = absurd (omega (arith, some))
    by false is none later = All-cons (λ (k : Judgement). is_refused k.finding ≡ false) j js is (later none)

-- where some are, one of them is
pub some_refused : (js : List Judgement) → 1 ≤ refused_count js → (j : Judgement) × Contains js j × (is_refused j.finding ≡ true)
some_refused [] some = absurd (omega (arith, some))
some_refused (j ∷ js) some = by (is_refused j.finding) refl some (some_refused js)
  where
    by : (b : Bool) → is_refused j.finding ≡ b → 1 ≤ length (cond b (j ∷ refused_of js) (refused_of js)) → (1 ≤ refused_count js → (k : Judgement) × Contains js k × (is_refused k.finding ≡ true)) → (k : Judgement) × Contains (j ∷ js) k × (is_refused k.finding ≡ true)
    by true is some later = (j, contains_head j js, is)
    by false is some later = let found = later some in (found.0, contains_tail j js found.0 found.1, found.2)

-- one key more in the two lists
module _ (judged : Judged) (keys more : List CheckedKey) (j : JudgedKey) (refused others : List JudgedKey) (undecided : Bool) (are_more : more ≡ keys ++ (judgement_of j).one ∷ []) (found : IsFinding judged (judgement_of j).one j.finding)
    (so_far : AreParted judged keys refused others undecided) (now_refused now_others : List JudgedKey) (now_undecided : Bool) (refused_is : now_refused ≡ refused ++ cond (is_refused j.finding) (j ∷ []) [])
    (others_is : now_others ≡ others ++ cond (is_refused j.finding) [] (j ∷ [])) (undecided_is : now_undecided ≡ (undecided || is_undecided j.finding)) where
  refused_more : map judgement_of now_refused ≡ refused_of (so_far.all ++ judgement_of j ∷ [])
  refused_more =
      ap (map judgement_of) refused_is ∙ map-append judgement_of refused (cond (is_refused j.finding) (j ∷ []) []) ∙ ap₂ (λ (a b : List Judgement). a ++ b) so_far.refused_are (by (is_refused j.finding))
      ∙ sym (filter-append (λ (k : Judgement). is_refused k.finding) so_far.all (judgement_of j ∷ []))
    where
      by : (b : Bool) → map judgement_of (cond b (j ∷ []) []) ≡ cond b (judgement_of j ∷ []) []
      by true = refl
      by false = refl

  others_more : map judgement_of now_others ≡ others_of (so_far.all ++ judgement_of j ∷ [])
  others_more =
      ap (map judgement_of) others_is ∙ map-append judgement_of others (cond (is_refused j.finding) [] (j ∷ [])) ∙ ap₂ (λ (a b : List Judgement). a ++ b) so_far.others_are (by (is_refused j.finding))
      ∙ sym (filter-append (λ (k : Judgement). not (is_refused k.finding)) so_far.all (judgement_of j ∷ []))
    where
      by : (b : Bool) → map judgement_of (cond b [] (j ∷ [])) ≡ cond (not b) (judgement_of j ∷ []) []
      by true = refl
      by false = refl

  undecided_more : now_undecided ≡ has_undecided (so_far.all ++ judgement_of j ∷ [])
  undecided_more = undecided_is ∙ ap₂ (λ (a b : Bool). a || b) so_far.undecided_is (by (is_undecided j.finding)) ∙ sym (has_undecided-append so_far.all (judgement_of j ∷ []))
    where
      by : (b : Bool) → b ≡ (b || false)
      by true = refl
      by false = refl

  pub parted_more : AreParted judged more now_refused now_others now_undecided
  parted_more = record {
    all = so_far.all ++ judgement_of j ∷ [];
    judged_are = judged_more judged keys more so_far.all (judgement_of j) are_more found so_far.judged_are;
    refused_are = refused_more;
    others_are = others_more;
    undecided_is = undecided_more;
  }
