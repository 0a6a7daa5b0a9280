-- The words that faults and limits are printed by.
use Rattle.std.specs.Prelude.{ℕ, List, codes}
use Rattle.vlsi_base.specs.declared.fault.FaultKind.{FaultKind}
use Rattle.vlsi_base.specs.declared.fault.FaultKind.TheVariants as fault
use Rattle.vlsi_base.specs.declared.fault.LimitKind.{LimitKind}
use Rattle.vlsi_base.specs.declared.fault.LimitKind.TheVariants as limit

abbrev pub fault_text : FaultKind → List ℕ
fault_text fault.BadByte = codes "bad byte"
fault_text fault.Syntax = codes "syntax"
fault_text fault.Twice = codes "twice"
fault_text fault.Unsupported = codes "unsupported"
fault_text fault.Unknown = codes "unknown"
fault_text fault.TwoDrivers = codes "two drivers"
fault_text fault.Undriven = codes "undriven"
fault_text fault.Cycle = codes "cycle"
fault_text fault.Width = codes "width"
fault_text fault.ClockUse = codes "clock use"
fault_text fault.NotAssigned = codes "not assigned"
fault_text fault.BadState = codes "bad state"
fault_text fault.NoPragma = codes "no pragma"
fault_text fault.UnknownCell = codes "unknown cell"
fault_text fault.BadMap = codes "bad map"
fault_text fault.Unconnected = codes "unconnected"
fault_text fault.NoDriver = codes "no driver"
fault_text fault.TimeBack = codes "time back"
fault_text fault.BadLine = codes "bad line"
fault_text fault.BadLayer = codes "bad layer"
fault_text fault.BadTransform = codes "bad transform"
fault_text fault.NoEnd = codes "no end"
fault_text fault.AfterEnd = codes "after end"
fault_text fault.NotPlaced = codes "not placed"

abbrev pub limit_text : LimitKind → List ℕ
limit_text limit.File = codes "file"
limit_text limit.Ident = codes "ident"
limit_text limit.Depth = codes "depth"
limit_text limit.Bits = codes "bits"
limit_text limit.Chain = codes "chain"
limit_text limit.Number = codes "number"
limit_text limit.Coordinate = codes "coordinate"
limit_text limit.Ports = codes "ports"
limit_text limit.States = codes "states"
limit_text limit.Size = codes "size"
limit_text limit.Cells = codes "cells"
limit_text limit.Width = codes "width"
limit_text limit.Inputs = codes "inputs"
