-- What is written of a machine is a sentence.
use Rattle.std.proofs.Common.{◌≡◌, ℕ, List, ◌++◌, map, None, ap, subst}
use Rattle.machine_core.specs.Machine.{Machine, register_names}
use Rattle.vhdl_lexer.specs.Listing.{tokens_in, refusal_in}
use Rattle.spell_theory.specs.Layout.{Written, text_of}
use Rattle.vhdl_print.specs.Outline.{entity_layout}
use Rattle.vbe_text.specs.Vbe.{IsSource}
use Rattle.vst_print.specs.Groups.{grouped, declared, outline}
use Rattle.vst_print.specs.Structure.{signals_layout, begin_layout}
use Rattle.vst_print.proofs.Netlists.{outline_name}
use Rattle.vbe_print.specs.Written.{with_supply_ports, head_layout, registers_layout, equations_layout, storage_layout, last_layout, signal_texts, written_vars, written_names, layout_by}
use Rattle.vbe_print.specs.Placed.{source_of}
use Rattle.vbe_print.specs.Said.{WrittenIsASentence}
use Rattle.vbe_print.proofs.Whole.{parts_layout}
use Rattle.vbe_print.proofs.Fits.{sentence}
use Rattle.vbe_print.proofs.Machines.{Limits, parts_of, what_is_new, can_be_said, can_be_stated}

layout_is : (stem : List ℕ) (m : Machine) → parts_layout (parts_of stem m) ≡ layout_by stem m
unfolding layout_by
layout_is stem m =
    let rest : List Written =
    signals_layout (signal_texts stem m)
    ++ (registers_layout (register_names m)
    ++ (begin_layout
    ++ (equations_layout (written_vars stem m) (written_names stem m) m.equations ++ (storage_layout (written_vars stem m) m.clock m.registers ++ last_layout)))) in
    ap (λ (n : List ℕ). entity_layout (outline m.name (with_supply_ports m.ports)) ++ (head_layout n ++ rest)) (outline_name m.name (map declared (grouped (with_supply_ports m.ports))))

pub written_is_a_sentence : WrittenIsASentence
written_is_a_sentence stem m letter checked named within =
    let limits : Limits m = record { stem = stem; letter = letter; within = within } in
    subst (λ (ws : List Written). (refusal_in (text_of ws) ≡ None) × IsSource (tokens_in (text_of ws)) (source_of stem m)) (layout_is stem m)
    (sentence (parts_of stem m) (can_be_said m checked named limits) (what_is_new m checked named limits) (can_be_stated m limits))
