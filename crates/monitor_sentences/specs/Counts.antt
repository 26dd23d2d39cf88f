-- What is said at the end: how many calls on how many keys, and how many of these are refused.
use Rattle.std.specs.Prelude.{ℕ, ◌+◌, ◌/◌, ◌%◌, List, [], ◌∷◌, ◌++◌, cond, codes, decimal}
use Rattle.std.specs.Prelude.{nat_eq, nat_lt}
use Rattle.monitor_sentences.specs.declared.counts.Counts.{Counts}
use Rattle.monitor_sentences.specs.declared.counts.Whole.{Whole}
use Rattle.monitor_sentences.specs.declared.counts.Whole.TheVariants as whole

-- the last three digits of a number, after a comma
abbrev pub group_text : ℕ → List ℕ
group_text number = codes ","
    ++ (48 + number / 100 % 10) ∷ (48 + number / 10 % 10) ∷ (48 + number % 10) ∷ []

-- a number with a comma before each three digits of its last nine
abbrev pub grouped : ℕ → List ℕ
grouped number = cond (nat_lt number 1000) (decimal number)
    (cond (nat_lt number 1000000) (decimal (number / 1000) ++ group_text number)
    (cond (nat_lt number 1000000000)
    (decimal (number / 1000000) ++ group_text (number / 1000) ++ group_text number)
    (decimal (number / 1000000000) ++ group_text (number / 1000000)
    ++ group_text (number / 1000) ++ group_text number)))

-- how many calls
abbrev pub calls_words : ℕ → List ℕ
calls_words calls = grouped calls ++ cond (nat_eq calls 1) (codes " call") (codes " calls")

-- how many keys
abbrev pub keys_words : ℕ → List ℕ
keys_words keys = grouped keys ++ cond (nat_eq keys 1) (codes " key") (codes " keys")

-- so many of the keys, and how many calls
abbrev pub some_of : ℕ → Counts → List ℕ
some_of some counts = grouped some ++ codes " of " ++ keys_words counts.keys
    ++ codes "; " ++ calls_words counts.calls ++ codes "\n"

-- what is found of all keys together
abbrev pub whole_of : Counts → Whole
whole_of counts = cond (nat_lt 0 counts.refused) whole.NotAtomic
    (cond (nat_lt 0 counts.doubtful) whole.NotDecided whole.Atomic)

-- whether the keys are atomic, and how many calls on how many keys there were
abbrev pub end_line : Counts → Whole → List ℕ
end_line counts whole.NotAtomic = codes "not atomic: " ++ some_of counts.refused counts
end_line counts whole.NotDecided = codes "not decided: " ++ some_of counts.doubtful counts
end_line counts whole.Atomic = codes "atomic: " ++ calls_words counts.calls
    ++ codes " on " ++ keys_words counts.keys ++ codes "\n"

-- the verdict on all keys, as the first member
unfoldable pub verdict_member : Whole → List ℕ
verdict_member whole.NotAtomic = codes "{\"verdict\":\"not atomic\""
verdict_member whole.NotDecided = codes "{\"verdict\":\"not decided\""
verdict_member whole.Atomic = codes "{\"verdict\":\"atomic\""

-- the counts as members
unfoldable pub count_members : Counts → List ℕ
count_members counts =
    codes ",\"refused\":" ++ decimal counts.refused
    ++ codes ",\"doubtful\":" ++ decimal counts.doubtful
    ++ codes ",\"keys\":" ++ decimal counts.keys
    ++ codes ",\"calls\":" ++ decimal counts.calls ++ codes "}\n"

-- both as an object of JSON
abbrev pub end_object : Counts → Whole → List ℕ
end_object counts whole = verdict_member whole ++ count_members counts
