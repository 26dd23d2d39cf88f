-- Keys that were judged, and what was found of them.
use Rattle.std.specs.Prelude.{ℕ, ◌≡◌, Bool, not, List, ◌++◌, All, filter, length, map}
use Rattle.std.specs.List.{list_any}
use Rattle.parallel_keys.specs.CheckedKeys.{CheckedKey}
use Rattle.parallel_keys.specs.KeysToCheck.{what_of}
use Rattle.judged_keys.specs.Findings.{IsFinding, is_refused, is_undecided}
use Rattle.judged_keys.specs.declared.finding.Finding.{Finding}
use Rattle.judged_keys.specs.declared.finding.Findings.{Findings}
use Rattle.judged_keys.specs.declared.finding.JudgedKey.{JudgedKey}
use Rattle.judged_keys.specs.declared.judged.Judged.{Judged}

-- a key that was judged, and what was found
pub record Judgement : Type 0 where
  pub one : CheckedKey
  pub finding : Finding

-- the keys were judged, each once, in this order
pub record AreJudged (judged : Judged) (keys : List CheckedKey) (all : List Judgement) : Type 0
  where
    pub each_key : map (λ j. j.one) all ≡ keys
    pub found : All (λ j. IsFinding judged j.one j.finding) all

-- those that are refused
abbrev pub refused_of : List Judgement → List Judgement
refused_of all = filter (λ j. is_refused j.finding) all

-- the others
abbrev pub others_of : List Judgement → List Judgement
others_of all = filter (λ j. not (is_refused j.finding)) all

-- how many are refused
abbrev pub refused_count : List Judgement → ℕ
refused_count all = length (refused_of all)

-- one of them is undecided
abbrev pub has_undecided : List Judgement → Bool
has_undecided all = list_any (λ j. is_undecided j.finding) all

-- those that are refused, and then the others, in both groups as they come
abbrev pub refused_first : List Judgement → List Judgement
refused_first all = refused_of all ++ others_of all

-- what is judged of a key, and what was found
abbrev pub judgement_of : JudgedKey → Judgement
judgement_of key = record { one = what_of key.one.now; finding = key.finding }

-- the keys were judged; those that are refused stand first, and they are counted
pub record AreFindingsOf (judged : Judged) (keys : List CheckedKey) (findings : Findings) : Type 0
  where
    pub all : List Judgement
    pub judged_are : AreJudged judged keys all
    pub in_order : map judgement_of findings.keys.items ≡ refused_first all
    pub refused : findings.refused ≡ refused_count all
    pub undecided : findings.undecided ≡ has_undecided all
