-- The scale of a switch: off is below on. Assumes nothing.
use Rattle.std.specs.Prelude.{ℕ}
use Rattle.scale.specs.Order.{Chain, numbered}
use Rattle.scale_cases.specs.declared.switch.Switch.{Switch}
use Rattle.scale_cases.specs.declared.switch.Switch.TheVariants.{Off, On}

abbrev pub level : Switch → ℕ
level Off = 0
level On = 1

abbrev pub switch_order : Chain Switch
switch_order = numbered level Off On
