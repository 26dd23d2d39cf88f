-- What a line says by itself.
use Rattle.std.proofs.Common.{ℕ, ◌≡◌, ◌==◌, List, [], ◌∷◌, true, false, Option, Some, None, Result}
use Rattle.std.proofs.Common.{String, Global, bytes_eq, codes, slice_index, refl, sym, ap}
use Rattle.std.specs.Prelude.{string_bytes}
use Rattle.std.specs.Cmp.Lexicographic.{bytes_decides}
use Rattle.std.proofs.lemmas.Bool.{false_from_ne_true}
use Rattle.script_runs.specs.declared.command.Command.{Command}
use Rattle.fault_script.specs.declared.fault.LineFault.{LineFault}
use Rattle.fault_script.specs.declared.parse_line.ConfigSoFar.{ConfigSoFar}
use Rattle.fault_script.specs.declared.shown.Setting.{Setting}
use Rattle.fault_script.specs.declared.shown.Setting.TheVariants as setting
use Rattle.fault_script.specs.declared.shown.Shown.TheVariants as shown
use Rattle.fault_script.specs.Words.{words, behind_word}
use Rattle.fault_script.specs.Commands.{command_in}
use Rattle.fault_script.specs.LineMeanings.{first_said, said_in, command_says, words_say, text_says}
use Rattle.fault_script.specs.LineItems.{setting_word, IsSettingWord, run_after, one_more, TextShows}

-- a blank line says nothing
pub blank_shows : (text : List ℕ) → words text ≡ [] → TextShows text shown.Nothing
unfolding text_says words_say
blank_shows text none = λ before count. rw none refl

-- a comment says nothing
pub comment_shows : (text verb args : List ℕ) → words text ≡ verb ∷ words args → args ≡ behind_word text
    → (slice_index verb 0 == 35) ≡ true → TextShows text shown.Nothing
unfolding text_says words_say command_says
comment_shows text verb args first behind is = λ before count. rw (first, ← behind, is) refl

-- a line of the configuration
pub set_shows : (text verb args : List ℕ) (set : Setting) (kept : String Global) → words text ≡ verb ∷ words args
    → args ≡ behind_word text → (slice_index verb 0 == 35) ≡ false → verb ≡ setting_word set → string_bytes kept ≡ args
    → TextShows text (shown.Sets set kept)
unfolding text_says words_say command_says
set_shows text verb args set kept first behind is word bytes = λ before count.
    let same : said_in before verb args ≡ said_in before (setting_word set) (string_bytes kept) =
    λ i. said_in before (word i) (sym bytes i) in
    rw (first, ← behind, is) (ap (one_more count) same)

-- a line of another first word is one of a command
runs_as : (before : Option ConfigSoFar) (verb args : List ℕ) → (IsSettingWord verb → ⊥)
    → said_in before verb args ≡ run_after before (command_in verb args)
unfolding said_in first_said
runs_as before verb args none =
    let not : (set : Setting) → bytes_eq verb (setting_word set) ≡ false =
    λ set. false_from_ne_true (bytes_eq verb (setting_word set)) (λ is. none (set, (bytes_decides verb (setting_word set)).0 is)) in
    by before (not setting.Replicas) (not setting.Reads) (not setting.Votes)
  where
    by : (before : Option ConfigSoFar) → bytes_eq verb (codes "replicas") ≡ false → bytes_eq verb (codes "reads") ≡ false
        → bytes_eq verb (codes "votes") ≡ false → said_in before verb args ≡ run_after before (command_in verb args)
    by None a b c = rw a refl
    by (Some opened) a b c = rw (a, b, c) refl

-- a command
pub run_shows : (text verb args : List ℕ) (command : Result Command LineFault) → words text ≡ verb ∷ words args
    → args ≡ behind_word text → (slice_index verb 0 == 35) ≡ false → (IsSettingWord verb → ⊥) → command ≡ command_in verb args
    → TextShows text (shown.Runs command)
unfolding text_says words_say command_says
run_shows text verb args command first behind is none said = λ before count.
    rw (first, ← behind, is, said) (ap (one_more count) (runs_as before verb args none))
