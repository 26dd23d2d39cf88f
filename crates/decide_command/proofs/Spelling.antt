-- Lines, piece by piece.
use Rattle.std.proofs.Common.{ℕ, ◌≡◌, List, ◌++◌, codes, decimal, ap, ◌∙◌}
use Rattle.value_order.specs.Numbers.{value_fault_number}
use Rattle.value_order.specs.declared.decision.ValueFault.{ValueFault}
use Rattle.value_explanations.specs.ValueSentences.{calls_of_fault, list_text}
use Rattle.explain_command.proofs.Spelling.{numbers_said, three}
use Rattle.decide_command.specs.JsonLines.{count_members, fault_members, key_member}

-- the beginning of a key's object
pub key_said : (old a b c key : List ℕ) → a ≡ old ++ codes "{\"key\":\"" → b ≡ a ++ key → c ≡ b ++ codes "\",\"verdict\":" → c ≡ old ++ key_member key
unfolding key_member
key_said old a b c key = three old (codes "{\"key\":\"") key (codes "\",\"verdict\":") a b c

-- a fault as members
pub fault_said : (old a b c : List ℕ) (fault : ValueFault) (n : ℕ) → n ≡ value_fault_number fault → a ≡ old ++ (codes "\"not atomic\",\"fault\":" ++ decimal n) → b ≡ a ++ codes ",\"calls\":" → c ≡ b ++ list_text (calls_of_fault fault)
    → c ≡ old ++ fault_members fault
unfolding fault_members
fault_said old a b c fault n is first second third =
    let words = codes "\"not atomic\",\"fault\":" in
    three old (words ++ decimal (value_fault_number fault)) (codes ",\"calls\":") (list_text (calls_of_fault fault)) a b c (first ∙ ap (λ (m : ℕ). old ++ (words ++ decimal m)) is) second third

-- how many reads are stale, as members
pub counts_said : (old a b c : List ℕ) (stale reads : ℕ) → a ≡ old ++ (codes ",\"stale\":" ++ decimal stale) → b ≡ a ++ (codes ",\"reads\":" ++ decimal reads)
    → c ≡ b ++ codes "}\n" → c ≡ old ++ count_members stale reads
unfolding count_members
counts_said old a b c stale reads = numbers_said old (codes ",\"stale\":") (codes ",\"reads\":") (codes "}\n") (decimal stale) (decimal reads) a b c
