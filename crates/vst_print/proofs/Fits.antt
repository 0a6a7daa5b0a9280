-- Each token of a structural text that is laid out is read again where it stands; so the text is a sentence.
use Rattle.std.proofs.Common.{◌≡◌, ℕ, ◌-◌, ◌^◌, ◌<◌, ◌==◌, true, false, not, ◌&&◌, List, [], ◌∷◌, ◌++◌, map, Option, None, Some, Ok, refl, sym, subst, arith, slice_index}
use Rattle.std.specs.List.{All}
use Rattle.std.proofs.lemmas.List.Elements.{All-head, All-tail}
use Rattle.vlsi_base.specs.declared.name.Name.{Name}
use Rattle.vhdl_token.specs.Keyword.{keyword_of}
use Rattle.vhdl_token.specs.declared.keyword.Keyword.TheVariants as word
use Rattle.vhdl_token.specs.declared.token.Sign.TheVariants as sign
use Rattle.vhdl_token.specs.declared.token.PlacedToken.{PlacedToken}
use Rattle.vhdl_lexer.specs.Listing.{tokens_in, refusal_in}
use Rattle.grammar_theory.specs.declared.limits.TheConstants.{DEPTH}
use Rattle.grammar_theory.specs.Marks.{State, uncounted}
use Rattle.grammar_theory.specs.Outcome.{start}
use Rattle.grammar_theory.specs.Answers.{AnswersAll}
use Rattle.spell_theory.specs.Layout.{Written, gap, turn, text_of, placed}
use Rattle.spell_theory.proofs.Layouts.{first_byte, cut_again}
use Rattle.spell_theory.proofs.Combinators.{accepts_all}
use Rattle.vhdl_print.specs.Outline.{OnePort, Outline, a_word, a_sign, a_name, port_layout, ports_layout, entity_layout}
use Rattle.vhdl_print.specs.EntityAgain.{IsName, CanBeAPort, CanBeWritten}
use Rattle.vhdl_print.proofs.VhdlLexer.{vhdl, Fit, fit_both}
use Rattle.vhdl_print.proofs.Again.{EndsWord, fit_port, fit_ports, fit_entity}
use Rattle.vst_text.specs.declared.file.StructuralFile.{StructuralFile}
use Rattle.vst_text.specs.Vst.{vst, IsStructure}
use Rattle.vst_print.specs.Structure.{Mapping, OneInstance, Structure, architecture_name, bit_layout, name_layout, component_end, component_layout, components_layout, signal_layout, signals_layout, mapping_layout, mappings_layout, instance_end, instance_layout, instances_layout, head_layout, begin_layout, last_layout, structure_layout}
use Rattle.vst_print.specs.Says.{IsSmall}
use Rattle.vst_print.specs.Placed.{placed_structure}
use Rattle.vst_print.proofs.Entries.{EntriesNew, entries, with_entries, port_entry, component_entry, signal_entry, instance_entry}
use Rattle.vst_print.proofs.WholeText.{spell_structure}

abbrev pub CanBeAComponent : Outline → Type 0
CanBeAComponent c = IsName c.name × CanBeAPort c.first × All CanBeAPort c.others

abbrev pub CanBeMentioned : Name → Type 0
CanBeMentioned n = IsName n.text × IsSmall n.bit

abbrev pub CanBeMapped : Mapping → Type 0
CanBeMapped m = CanBeMentioned m.pin × CanBeMentioned m.net

abbrev pub CanBeInstance : OneInstance → Type 0
CanBeInstance i = IsName i.label × IsName i.model × CanBeMapped i.first × All CanBeMapped i.others

-- Names are words, none of them reserved; numbers have 32 bits; what is declared is new; and the bits are within the limit.
pub record CanBeLaidOut (st : Structure) : Type 0 where
  pub entity : CanBeWritten st.entity
  pub components : All CanBeAComponent st.components
  pub signals : All IsName st.signals
  pub instances : All CanBeInstance st.instances
  pub new : EntriesNew (entries st) uncounted

-- ---- components

fit_component_end : (next : ℕ) → Fit component_end next
fit_component_end next = ((tt, refl), ((tt, refl), ((tt, refl), ((tt, refl), ((tt, refl), tt)))))

behind_pins : (ps : List OnePort) (next : ℕ) → EndsWord (first_byte (ports_layout ps ++ component_end) next)
behind_pins [] next = refl
behind_pins (p ∷ ps) next = refl

fit_component : (c : Outline) (next : ℕ) → CanBeAComponent c → Fit (component_layout c) next
fit_component c next can =
    let more = ports_layout c.others ++ component_end in (
      (tt, refl),
      (
        (can.0, refl),
        (
          (tt, refl),
          (
            (tt, refl),
            fit_both (port_layout c.first) more next (fit_port c.first (first_byte more next) can.1 (behind_pins c.others next))
                (fit_both (ports_layout c.others) component_end next (fit_ports c.others 41 can.2 refl) (fit_component_end next)),
          ),
        ),
      ),
    )

fit_components : (cs : List Outline) (next : ℕ) → All CanBeAComponent cs → Fit (components_layout cs) next
fit_components [] next can = tt
fit_components (c ∷ cs) next can =
    fit_both (component_layout c) (components_layout cs) next (fit_component c (first_byte (components_layout cs) next) (All-head CanBeAComponent c cs can)) (fit_components cs next (All-tail CanBeAComponent c cs can))

-- ---- signals

fit_signals : (ss : List (List ℕ)) (next : ℕ) → All IsName ss → Fit (signals_layout ss) next
fit_signals [] next can = tt
fit_signals (x ∷ xs) next can =
    fit_both (signal_layout x) (signals_layout xs) next ((tt, refl), ((All-head IsName x xs can, refl), ((tt, refl), ((tt, refl), ((tt, refl), tt))))) (fit_signals xs next (All-tail IsName x xs can))

-- ---- instances

fit_name : (n : Name) (next : ℕ) → CanBeMentioned n → EndsWord next → Fit (name_layout n) next
fit_name n next can ends = by n.bit can.1 where
  by : (b : Option ℕ) → IsSmall b → Fit (a_name n.text ∷ bit_layout b) next
  by None small = ((can.0, ends), tt)
  by (Some k) small = ((can.0, refl), ((tt, refl), ((small, refl), ((tt, refl), tt))))

fit_mapping : (m : Mapping) (next : ℕ) → CanBeMapped m → EndsWord next → Fit (mapping_layout m) next
fit_mapping m next can ends =
    fit_both (name_layout m.pin) (gap ∷ a_sign sign.Arrow ∷ gap ∷ name_layout m.net) next (fit_name m.pin 32 can.0 refl) ((tt, refl), fit_name m.net next can.1 ends)

ends_map : (ms : List Mapping) (next : ℕ) → EndsWord next → EndsWord (first_byte (mappings_layout ms) next)
ends_map [] next ends = ends
ends_map (m ∷ ms) next ends = refl

fit_mappings : (ms : List Mapping) (next : ℕ) → All CanBeMapped ms → EndsWord next → Fit (mappings_layout ms) next
fit_mappings [] next can ends = tt
fit_mappings (m ∷ ms) next can ends =
    let behind = first_byte (mappings_layout ms) next in
    fit_both (a_sign sign.Comma ∷ turn ∷ mapping_layout m) (mappings_layout ms) next
    ((tt, refl), fit_mapping m behind (All-head CanBeMapped m ms can) (ends_map ms next ends))
    (fit_mappings ms next (All-tail CanBeMapped m ms can) ends)

behind_maps : (ms : List Mapping) (next : ℕ) → EndsWord (first_byte (mappings_layout ms ++ instance_end) next)
behind_maps [] next = refl
behind_maps (m ∷ ms) next = refl

fit_instance : (i : OneInstance) (next : ℕ) → CanBeInstance i → Fit (instance_layout i) next
fit_instance i next can =
    let more = mappings_layout i.others ++ instance_end in (
      (can.0, refl),
      (
        (tt, refl),
        (
          (can.1, refl),
          (
            (tt, refl),
            (
              (tt, refl),
              (
                (tt, refl),
                fit_both (mapping_layout i.first) more next (fit_mapping i.first (first_byte more next) can.2 (behind_maps i.others next))
                    (fit_both (mappings_layout i.others) instance_end next (fit_mappings i.others 41 can.3 refl) ((tt, refl), ((tt, refl), tt))),
              ),
            ),
          ),
        ),
      ),
    )

fit_instances : (is : List OneInstance) (next : ℕ) → All CanBeInstance is → Fit (instances_layout is) next
fit_instances [] next can = tt
fit_instances (i ∷ is) next can =
    fit_both (instance_layout i) (instances_layout is) next (fit_instance i (first_byte (instances_layout is) next) (All-head CanBeInstance i is can)) (fit_instances is next (All-tail CanBeInstance i is can))

-- ---- the whole text

structural : IsName architecture_name
unfolding keyword_of
structural = (record { begins = refl; letters = refl; short = omega arith }, refl)

pub fit_structure : (st : Structure) (next : ℕ) → CanBeLaidOut st → Fit (structure_layout st) next
fit_structure st next can =
    let r5 = instances_layout st.instances ++ last_layout in
    let r4 = begin_layout ++ r5 in
    let r3 = signals_layout st.signals ++ r4 in
    let r2 = components_layout st.components ++ r3 in
    let r1 = head_layout st.entity.name ++ r2 in
    let head : Fit (head_layout st.entity.name) (first_byte r2 next) = ((tt, refl), ((structural, refl), ((tt, refl), ((can.entity.name, refl), ((tt, refl), tt))))) in
    let last : Fit last_layout next = ((tt, refl), ((structural, refl), ((tt, refl), tt))) in
    fit_both (entity_layout st.entity) r1 next (fit_entity st.entity (first_byte r1 next) can.entity)
    (fit_both (head_layout st.entity.name) r2 next head
    (fit_both (components_layout st.components) r3 next (fit_components st.components (first_byte r3 next) can.components)
    (fit_both (signals_layout st.signals) r4 next (fit_signals st.signals (first_byte r4 next) can.signals)
    (fit_both begin_layout r5 next ((tt, refl), tt)
    (fit_both (instances_layout st.instances) last_layout next (fit_instances st.instances (first_byte last_layout next) can.instances) last)))))

-- the text is cut without a refusal, and its tokens are a sentence with this value
pub sentence : (st : Structure) → CanBeLaidOut st → (refusal_in (text_of (structure_layout st)) ≡ None) × IsStructure (tokens_in (text_of (structure_layout st))) (placed_structure 1 st)
unfolding tokens_in refusal_in
sentence st can =
    let behind = with_entries (map instance_entry st.instances) (with_entries (map signal_entry st.signals) (with_entries (map component_entry st.components) (with_entries (map port_entry (st.entity.first ∷ st.entity.others)) uncounted))) in
    let r = spell_structure DEPTH st 1 uncounted refl refl refl can.new in
    let c = cut_again vhdl false 1 (structure_layout st) (fit_structure st 0 can) in
    let Right : List PlacedToken → Type 0 = λ ts. AnswersAll vst (start ts) (Ok (placed_structure 1 st, record { state = behind; rest = [] })) in (
      c.refusal,
      record {
        end = record { state = behind; rest = [] };
        read = subst Right (sym c.tokens_are) (accepts_all vst (placed_structure 1 st) (placed 1 (structure_layout st)) behind r);
      },
    )
