-- The sizes of what is answered.
use Rattle.std.specs.Prelude.{Result, Ok, Err}
use Rattle.obscuration.specs.Share.{Sizes}
use Rattle.shadow.specs.declared.Second.{Second}
use Rattle.sheet_types.specs.declared.refusals.Refusal.{Refusal}

-- the sizes of what is answered; a refusal has none
abbrev pub AnsweredSizes : Result Second Refusal → Type 0
AnsweredSizes (Ok x) = Sizes x.shadow.l1 x.shadow.l2 x.shadow.m
AnsweredSizes (Err r) = Unit
