-- What lines made so far, and one line more.
use Rattle.std.proofs.Common.{ℕ, ◌≡◌, ◌==◌, ◌+◌, List, [], ◌∷◌, ◌++◌, length, Bool, true, false}
use Rattle.std.proofs.Common.{cond, Option, Some, None, Result, Ok, Err, bytes_eq, codes, nat_le}
use Rattle.std.proofs.Common.{slice_index, refl, sym, ap, ◌∙◌, subst, arith, length-append}
use Rattle.std.proofs.lemmas.List.Sums.{fold-append}
use Rattle.std.proofs.lemmas.List.Elements.{filter_map-append}
use Rattle.fault_script.specs.declared.draft.Draft.{Draft}
use Rattle.fault_script.specs.declared.parse_line.ConfigSoFar.{ConfigSoFar}
use Rattle.fault_script.specs.declared.parse_line.Said.{Said}
use Rattle.fault_script.specs.declared.parse_line.Said.TheVariants.{Opens, Runs}
use Rattle.fault_script.specs.declared.fault.LineFault.{LineFault}
use Rattle.fault_script.specs.declared.fault.LineFault.TheVariants.{NoReplicas, TooManyCommands}
use Rattle.fault_script.specs.declared.shown.Shown.{Shown}
use Rattle.world_steps.specs.Configs.{Config}
use Rattle.fault_script.specs.declared.parse_line.Last.TheVariants.{Replicas}
use Rattle.fault_script.specs.Words.{words, behind_word, without_return}
use Rattle.counted_devices.specs.Answers.{◌>>=◌, Fails}
use Rattle.counted_devices.specs.declared.read_fault.Stop.{Stop}
use Rattle.counted_devices.specs.declared.read_fault.Stop.TheVariants as stop
use Rattle.line_files.specs.Steps.{ReadsUnder}
use Rattle.fault_script.specs.Settings.{replicas_in}
use Rattle.fault_script.specs.LineMeanings.{first_said, said_in, command_says, words_say, text_says}
use Rattle.fault_script.specs.LineItems.{ScriptLineShows, says_after}
use Rattle.fault_script.specs.Lines.{ScriptLineSays, is_long, is_no_text, says}
use Rattle.fault_script.specs.Scripts.{SaidLine, ScriptLinesSay, no_line, blank_line, command_line}
use Rattle.fault_script.specs.Scripts.{opened_after, opened_of, command_by, commands_of, script_rules}
use Rattle.fault_script.specs.Drafts.{IsDraft, Drafts}
use Rattle.fault_script.proofs.Chains.{after}

opened-more : (saids : List SaidLine) (placed : SaidLine) → opened_of (saids ++ placed ∷ []) ≡ opened_after (opened_of saids) placed.said
opened-more saids placed = fold-append (λ (before : Option ConfigSoFar) (p : SaidLine). opened_after before p.said) None saids (placed ∷ [])

commands-more : (saids : List SaidLine) (placed : SaidLine) → commands_of (saids ++ placed ∷ []) ≡ commands_of saids
    ++ commands_of (placed ∷ [])
commands-more saids placed = filter_map-append (λ (p : SaidLine). command_by p.line p.said) saids (placed ∷ [])

-- one line more
pub drafted_more : (saids : List SaidLine) (placed : SaidLine) (old new : Draft) → IsDraft saids old → new.opened
    ≡ opened_after old.opened placed.said → new.commands.items ≡ old.commands.items ++ commands_of (placed ∷ []) → new.count
    ≡ old.count + 1 → IsDraft (saids ++ placed ∷ []) new
drafted_more saids placed old new d opened commands count = record {
  opened = opened ∙ ap (λ (o : Option ConfigSoFar). opened_after o placed.said) d.opened ∙ sym (opened-more saids placed);
  commands = commands ∙ ap (λ xs. xs ++ commands_of (placed ∷ [])) d.commands ∙ sym (commands-more saids placed);
  counted = omega (arith, count, d.counted, length-append saids (placed ∷ []));
}

-- what the line says after the lines that were read
says_at : (saids : List SaidLine) (draft : Draft) (line : List ℕ) (shown : Shown) (said : Result (Option Said) LineFault)
    → IsDraft saids draft → ScriptLineShows line (Ok shown) → says_after draft.opened draft.count shown ≡ said
    → ScriptLineSays (opened_of saids) (length saids) line said
says_at saids draft line shown said d shows is =
    let P : Result (Option Said) LineFault → Type 0 = λ said. ScriptLineSays (opened_of saids) (length saids) line said in
    let same : says_after (opened_of saids) (length saids) shown ≡ says_after draft.opened draft.count shown =
    λ i. says_after (sym d.opened i) (sym d.counted i) shown in
    subst P (same ∙ is) (shows (opened_of saids) (length saids))

-- a blank line, or a comment
pub drawn_blank : (earlier : List (List ℕ)) (draft : Draft) (line : List ℕ) (shown : Shown) → Drafts earlier draft
    → ScriptLineShows line (Ok shown) → says_after draft.opened draft.count shown ≡ Ok None → Drafts (earlier ++ line ∷ []) draft
drawn_blank earlier draft line shown d h is = record {
  saids = d.saids;
  read = blank_line earlier d.saids line d.read (says_at d.saids draft line shown (Ok None) d.drafted h is);
  drafted = d.drafted;
}

-- a command
pub drawn_command : (earlier : List (List ℕ)) (old new : Draft) (line : List ℕ) (number : ℕ) (shown : Shown) (said : Said)
    → Drafts earlier old → number ≡ length earlier + 1 → ScriptLineShows line (Ok shown)
    → says_after old.opened old.count shown ≡ Ok (Some said)
    → ((saids : List SaidLine) → IsDraft saids old → IsDraft (saids ++ record { line = number; said = said } ∷ []) new)
    → Drafts (earlier ++ line ∷ []) new
drawn_command earlier old new line number shown said d counted h is more =
    let P : ℕ → Type 0 = λ n. IsDraft (d.saids ++ record { line = n; said = said } ∷ []) new in
    record {
      saids = d.saids ++ record { line = length earlier + 1; said = said } ∷ [];
      read = command_line earlier d.saids line said d.read (says_at d.saids old line shown (Ok (Some said)) d.drafted h is);
      drafted = subst P counted (more d.saids d.drafted);
    }

-- a line whose reading stopped
pub drawn_stop : (earlier : List (List ℕ)) (draft new : Draft) (line : List ℕ) (shown : Shown) (s : Stop LineFault)
    → Drafts earlier draft → ScriptLineShows line (Ok shown) → Fails s (says_after draft.opened draft.count shown)
    → ReadsUnder script_rules Drafts (λ (draft : Draft). Some (tt {0})) (tt {0}) earlier line (Err s) new
drawn_stop earlier draft new line shown stop.Memory d h is = tt
drawn_stop earlier draft new line shown (stop.Fault fault) d h is = record {
  saids = d.saids;
  read = d.read;
  counted = refl;
  faulty = says_at d.saids draft line shown (Err fault) d.drafted h is;
}

-- a line that says something says it by its words
said_by : (before : Option ConfigSoFar) (count : ℕ) (line : List ℕ) (r : Result (Option Said) LineFault) (said : Option Said)
    → ScriptLineSays before count line r → r ≡ Ok said → text_says before count (without_return line) ≡ Ok said
said_by before count line r said (is_long h) e = absurd (cc)
said_by before count line r said (is_no_text short h) e = absurd (cc)
said_by before count line r said (says x short text h) e = h ∙ e

-- a line after no configuration says none but one
data Sets : Said → Type 0 where
  sets : (opened : ConfigSoFar) → Sets (Opens opened)

abbrev bare : Config → Result Said LineFault
bare config = Ok (Opens (record { config = config; last = Replicas }))

bare_sets : (config : Config) (said : Said) → bare config ≡ Ok said → Sets said
bare_sets config said e =
    let same : Opens (record { config = config; last = Replicas }) ≡ said = cc in
    let P : Said → Type 0 = λ s. Sets s in
    subst P same (sets (record { config = config; last = Replicas }))

first_by : (b : Bool) (args : List (List ℕ)) (said : Said) → cond b (replicas_in args >>= bare) (Err NoReplicas) ≡ Ok said → Sets said
first_by true args said e = let w = after (replicas_in args) bare said e in bare_sets w.0 said w.2
first_by false args said e = absurd (cc)

abbrev here : Said → Result (Option Said) LineFault
here said = Ok (Some said)

command_by_words : (a b : Bool) (verb args : List ℕ) (said : Said)
    → cond a (Ok None) (cond b (Err TooManyCommands) (said_in None verb args >>= here)) ≡ Ok (Some said) → Sets said
unfolding said_in first_said
command_by_words true b verb args said e = absurd (cc)
command_by_words false true verb args said e = absurd (cc)
command_by_words false false verb args said e =
    let w = after (said_in None verb args) here (Some said) e in
    let same : w.0 ≡ said = cc in
    let P : Said → Type 0 = λ s. Sets s in
    subst P same (first_by (bytes_eq verb (codes "replicas")) (words args) w.0 w.1)

words_set : (count : ℕ) (ws : List (List ℕ)) (args : List ℕ) (said : Said) → words_say None count ws args ≡ Ok (Some said) → Sets said
unfolding words_say command_says
words_set count [] args said e = absurd (cc)
words_set count (verb ∷ others) args said e = command_by_words (slice_index verb 0 == 35) (nat_le 1000000 count) verb args said e

text_sets : (count : ℕ) (text : List ℕ) (said : Said) → text_says None count text ≡ Ok (Some said) → Sets said
unfolding text_says
text_sets count text said e = words_set count (words text) (behind_word text) said e

some_set : (before : Option ConfigSoFar) (said : Said) → (before ≡ None → Sets said) → opened_after before said ≡ None → ⊥
some_set before (Opens opened) h e = cc
some_set (Some opened) (Runs c) h e = cc
some_set None (Runs c) h e = elim (h refl) [ ]

-- where there is no configuration, there is no command
pub no_command : (lines : List (List ℕ)) (saids : List SaidLine) → ScriptLinesSay lines saids → opened_of saids ≡ None → saids ≡ []
no_command lines saids no_line e = refl
no_command lines saids (blank_line earlier x line read h) e = no_command earlier x read e
no_command lines saids (command_line earlier x line said read h) e =
    absurd (some_set (opened_of x) said
    (λ nothing. let P : Option ConfigSoFar → Type 0 = λ o. ScriptLineSays o (length x) line (Ok (Some said)) in
    text_sets (length x) (without_return line) said (said_by None (length x) line (Ok (Some said)) (Some said) (subst P nothing h) refl))
    (sym (opened-more x (record { line = length earlier + 1; said = said })) ∙ e))
