-- What a source elaborates to, over the numbers of its declared bits.
use Rattle.std.specs.Prelude.{◌≡◌, ◌<◌, ◌^◌, map, length}
use Rattle.source_checks.specs.declared.statement.DesignFile.{DesignFile}
use Rattle.source_checks.specs.Symbols.{symbols, all_names}
use Rattle.source_checks.specs.Elaboration.{definitions, storage, clock_name}
use Rattle.source_bits.specs.Driven.{driven_view, stored_view, numbered_definition, numbered_storage}
use Rattle.vlsi_model.specs.declared.source.Source.{Source}

pub record IsSourceOf (design : DesignFile) (s : Source) : Type 0 where
  pub numbers : s.numbers ≡ symbols design
  -- numbers of 32 bits tell the bits apart
  pub few : length (all_names (symbols design)) < 2 ^ 32
  pub clock : s.clock ≡ clock_name design
  pub driven : map driven_view s.driven.items ≡ map (numbered_definition (all_names (symbols design))) (definitions design)
  pub stored : map stored_view s.stored.items ≡ map (numbered_storage (all_names (symbols design))) (storage design)
