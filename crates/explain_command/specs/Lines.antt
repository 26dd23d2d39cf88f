-- The lines on keys, for people.
use Rattle.std.specs.Prelude.{ℕ, zero, suc, Bool, true, false, List, [], ◌++◌, codes, decimal}
use Rattle.sentences.specs.Words.{quoted_text}
use Rattle.certificate_check.specs.Texts.{verdict_text}
use Rattle.certificate_check.specs.declared.verdict.Verdict.TheVariants as verdict
use Rattle.explanations.specs.Sentences.{rule_text}
use Rattle.value_explanations.specs.ValueSentences.{doubt_text, value_fault_text}
use Rattle.judged_keys.specs.declared.finding.Finding.{Finding}
use Rattle.judged_keys.specs.declared.finding.Finding.TheVariants as finding
use Rattle.judged_keys.specs.declared.judged.Judged.{Judged}
use Rattle.judged_keys.specs.declared.judged.Judged.TheVariants as judged

-- what was found of a key
abbrev pub found_text : Finding → List ℕ
found_text finding.Ordered = verdict_text verdict.Yes
found_text (finding.OrderFault fault) = verdict_text (verdict.No fault)
found_text finding.Sound = verdict_text verdict.Yes
found_text (finding.TagFault rule) = codes "no tags " ++ rule_text rule
found_text finding.Atomic = codes "atomic"
found_text (finding.ValueFault fault) = codes "not atomic " ++ value_fault_text fault
found_text (finding.Undecided doubt) = codes "undecided: " ++ doubt_text doubt

-- the line that says what was found of a key
unfoldable pub finding_line : List ℕ → Finding → List ℕ
finding_line key f = key ++ codes ": " ++ found_text f ++ codes "\n"

-- the line that says that no key has the name, which stands there as a JSON text
unfoldable pub missing_text : List ℕ → List ℕ
missing_text name = codes "no such key " ++ quoted_text name ++ codes "\n"

-- the words before the number of refused keys without a reason
abbrev pub left_out_words : Judged → List ℕ
left_out_words judged.Orders = codes "refused keys not explained: "
left_out_words judged.Tags = codes "refused keys not explained: "
left_out_words judged.Values = codes "keys that are not atomic and not explained: "

-- the line that says how many refused keys have no reason here, if any has none
abbrev pub left_out_line : Judged → ℕ → List ℕ
left_out_line judged zero = []
left_out_line judged (suc count) =
    left_out_words judged ++ decimal (suc count) ++ codes "; --most N says how many are\n"

-- the line that says that values judge a history without notes, if that is to be said
abbrev pub hint_line : Bool → List ℕ
hint_line true = codes "no call has a note; abd decide judges the history by its values\n"
hint_line false = []

-- the line that says how many of the reads are stale
unfoldable pub stale_line : ℕ → ℕ → List ℕ
stale_line stale reads = codes "  stale reads: " ++ decimal stale ++ codes " of " ++ decimal reads
    ++ codes " (a later write had ended before they began)\n"
