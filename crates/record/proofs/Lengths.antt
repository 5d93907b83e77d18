-- The lengths of the records that the table of fields gives are those that document 01 prints in its column "whole".
use mathlib.Core.Path.{◌≡◌, refl}
use Rattle.record.specs.Layout.{printed, sums}

pub sums_as_printed : sums ≡ printed
sums_as_printed = refl
