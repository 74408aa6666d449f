-- Worked examples of lines and of texts: each is computed.
use Rattle.std.specs.Prelude.{◌≡◌, refl, List, [], ◌∷◌, map, pos, neg_ℤ, Ok, Some, None, Err}
use Prim.Native.String.{String}
use Rattle.request_text.specs.declared.Fault.TheVariants as Fault
use Rattle.request_format.specs.declared.fields.Shape.TheVariants as S
use Rattle.request_format.specs.Fields.{holds}
use Rattle.request_format.specs.Rows.{letters, rows, rowAt}
use Rattle.tokens.specs.Text.{run_of, lines_of}
use Rattle.tokens.specs.Numbers.{appended, is_number, is_whole, amount}
use Rattle.request_text.specs.Names.{names, named, find_in}
use Rattle.request_text.specs.Shapes.{shape_in, shape_of}
use Rattle.request_text.specs.Lines.{with_sign, fitted, value_of, of_value, of_name, meaning_of, number_in}

abbrev lines : List String
lines =
    "x0 -0.19869267" ∷ "  latitude\t55.755  # Moscow" ∷ "tan f1 .00459878" ∷ "first -3600" ∷ "d0 23.1932850000" ∷ "delta t -29.5"
    ∷ "# a comment" ∷ "" ∷ "y0 0.123456789" ∷ "delta t 29.505" ∷ "height 1e3" ∷ "station -1" ∷ "last 32768" ∷ "guard -1" ∷ "guard 100" ∷ "tan f3 0" ∷ "x00 1" ∷ []

pub meanings : map (λ (l : String). meaning_of S.Eclipse (letters l)) lines
    ≡ Ok (Some (0, (neg_ℤ (pos 19869267)))) ∷ Ok (Some (23, (pos 55755000))) ∷ Ok (Some (20, (pos 459878))) ∷ Ok (Some (27, (neg_ℤ (pos 3600)))) ∷ Ok (Some (8, (pos 23193285)))
    ∷ Ok (Some (26, (neg_ℤ (pos 2950)))) ∷ (Ok None) ∷ (Ok None) ∷ Err (Fault.NotWhole 4) ∷ Err (Fault.NotWhole 26)
    ∷ Err (Fault.NotNumber 25) ∷ Err (Fault.Unfit 22) ∷ Err (Fault.Unfit 28)
    ∷ Err (Fault.Unfit 29) ∷ Ok (Some (29, (pos 100)))
    ∷ Err Fault.Unknown ∷ Err Fault.Unknown ∷ []
unfolding holds rows rowAt run_of lines_of appended is_number is_whole amount names named find_in with_sign fitted value_of of_value of_name meaning_of
meanings = refl

-- a star's own name, and one that it does not have
pub star_meanings : map (λ (l : String). meaning_of S.Star (letters l)) ("radius 0.272281" ∷ "mu0 359.144993" ∷ "guard 100" ∷ "d1 0" ∷ [])
    ≡ Ok (Some (12, (pos 27228100))) ∷ Ok (Some (9, (pos 359144993))) ∷ Ok (Some (20, (pos 100))) ∷ Err Fault.Unknown ∷ []
unfolding holds rows rowAt run_of lines_of appended is_number is_whole amount names named find_in with_sign fitted value_of of_value of_name meaning_of
star_meanings = refl

-- a line that names the instant gives no number; a name that only begins so is no name
pub instant-lines : map (λ (l : String). number_in S.Eclipse (letters l)) ("instant 2017-08-21 18:00:00 ET" ∷ "\tinstant# x" ∷ "instants 1" ∷ "x0 1" ∷ [])
    ≡ (Ok None) ∷ (Ok None) ∷ Err Fault.Unknown ∷ Ok (Some (0, (pos 100000000))) ∷ []
unfolding holds rows rowAt run_of lines_of appended is_number is_whole amount names named find_in with_sign fitted value_of of_value of_name meaning_of number_in
instant-lines = refl

pub shapes : map (λ (t : String). shape_of (letters t)) ("x0 1\n\tradius\n" ∷ "x0 1 # radius 2\nradiuses 1\n" ∷ []) ≡ S.Star ∷ S.Eclipse ∷ []
unfolding shape_of shape_in run_of lines_of named
shapes = refl
