-- The tags of keys that aren't refused.
use Rattle.std.proofs.Common.{ℕ, ◌≡◌, true, false, List, [], Option, Some, None, refl, subst}
use Rattle.std.specs.List.{All, Contains}
use Rattle.std.specs.Str.{bytes_eq}
use Rattle.std.specs.Map.{lookup}
use Rattle.std.proofs.lemmas.List.Elements.{All-contains, All-contains_itself, All-weaker}
use Rattle.recorder.specs.declared.part.Call.{Call}
use Rattle.recorder.specs.Halls.{RecordedHalls}
use Rattle.recorder.specs.Sound.{TagSound}
use Rattle.parallel_keys.specs.CheckedKeys.{CheckedKey, KeyParts, all_parts, checked_keys}
use Rattle.cli.proofs.Entries.{contains_nothing, found_entry}
use Rattle.cli.proofs.HallParts.{have_parts, HaveParts}
use Rattle.judged_keys.specs.Files.{HaveKeys}
use Rattle.judged_keys.specs.Findings.{IsFinding, is_refused}
use Rattle.judged_keys.specs.Judgements.{AreJudged, Judgement, refused_count}
use Rattle.judged_keys.specs.Selected.{is_selected, names_of, selected_keys}
use Rattle.judged_keys.specs.Tellings.{AreFound}
use Rattle.judged_keys.specs.declared.finding.Finding.{Finding}
use Rattle.judged_keys.specs.declared.finding.Finding.TheVariants as finding
use Rattle.judged_keys.specs.declared.judged.Judged.{Judged}
use Rattle.judged_keys.specs.declared.judged.Judged.TheVariants.{Tags}
use Rattle.judged_keys.specs.declared.selection.Selection.{Selection}
use Rattle.judged_keys.proofs.Judgements.{none_refused}
use Rattle.judged_keys.proofs.Selecting.{each_entry}
use Rattle.explain_command.specs.SoundTags.{HasSoundTags}

-- no call has sound tags
sound_nothing : TagSound []
sound_nothing = record {
  noted = λ call h done. absurd (contains_nothing call h);
  rising = λ a b s t precedes first second. absurd (contains_nothing a first.recorded);
  rising_to_writes = λ a b s t writes precedes first second. absurd (contains_nothing a first.recorded);
  distinct = λ a b tag one other first second. absurd (contains_nothing a first.recorded);
  above = λ a tag writes noted. absurd (contains_nothing a noted.recorded);
  absent = λ a response reads noted answered. absurd (contains_nothing a noted.recorded);
  answers = λ a response tag reads noted other answered. absurd (contains_nothing a noted.recorded);
}

-- what was found by tags, and isn't a no
are_sound : (one : CheckedKey) (f : Finding) → IsFinding Tags one f → is_refused f ≡ false → TagSound one.part
are_sound one finding.Sound h good = h.so
are_sound one (finding.TagFault rule) h good = absurd (cc)
are_sound one finding.Ordered h good = let other = h.by in absurd (cc)
are_sound one (finding.OrderFault fault) h good = absurd (cc)
are_sound one finding.Atomic h good = let other = h.by in absurd (cc)
are_sound one (finding.ValueFault fault) h good = absurd (cc)
are_sound one (finding.Undecided doubt) h good = let other = h.by in absurd (cc)

pub sound_keys : (selection : Selection) (histories : RecordedHalls) (keys : List CheckedKey) (js : List Judgement) → selection.judged ≡ Tags → HaveKeys histories [] keys → AreFound selection keys js → refused_count js ≡ 0
    → (key : List ℕ) → is_selected (names_of selection) key ≡ true → HasSoundTags histories.halls key
sound_keys selection histories keys js by_tags has are none key passes = by (lookup (bytes_eq key) parts) refl (have_parts histories.halls has.parts has.recorded has.lawful.count.least has.lawful.keys)
  where
    parts : KeyParts
    parts = all_parts has.parts

    found : AreJudged Tags (selected_keys (names_of selection) (checked_keys parts [])) js
    found = subst (λ (ks : List CheckedKey). AreJudged Tags (selected_keys (names_of selection) ks) js) has.are (subst (λ (judged : Judged). AreJudged judged (selected_keys (names_of selection) keys) js) by_tags are)

    sound : All (λ (j : Judgement). TagSound j.one.part) js
    sound =
        All-weaker (Contains js) (λ (j : Judgement). TagSound j.one.part) (λ j h. are_sound j.one j.finding (All-contains (λ (k : Judgement). IsFinding Tags k.one k.finding) js j found.found h) (All-contains (λ (k : Judgement). is_refused k.finding ≡ false) js j (none_refused js none) h))
        js (All-contains_itself js)

    by : (o : Option (List Call)) → lookup (bytes_eq key) parts ≡ o → HaveParts histories.halls parts → HasSoundTags histories.halls key
    by None is have = record { part = []; recorded = have.none key is; sound = sound_nothing }
    by (Some part) is have =
        let h = found_entry parts key part is in
        record { part = part; recorded = have.each key part h; sound = each_entry Tags (names_of selection) parts js found (λ (one : CheckedKey). TagSound one.part) sound key part h passes }
