-- The printed text of licences, parts and errors.
use Rattle.std.specs.Prelude.{ℕ, List, [], ◌++◌, Option, Some, None, codes, flat_map}
use Rattle.spdx_expressions.specs.Trees.{Term, Piece, Named, And, Or, Open, Close}
use Rattle.std.specs.Prelude.{string_bytes}
use Rattle.spdx_expressions.specs.declared.error.Expected.{Expected}
use Rattle.spdx_expressions.specs.declared.error.Expected.TheVariants as expected
use Rattle.spdx_expressions.specs.declared.error.Found.{Found}
use Rattle.spdx_expressions.specs.declared.error.Found.TheVariants as found
use Rattle.spdx_expressions.specs.declared.error.ParseError.{ParseError}
use Rattle.spdx_expressions.specs.declared.error.ReadError.{ReadError}
use Rattle.spdx_expressions.specs.declared.error.ReadError.TheVariants as errors
use Rattle.spdx_expressions.specs.Grammar.{plus}

abbrev pub print_exception : Option (List ℕ) → List ℕ
print_exception None = []
print_exception (Some e) = codes " WITH " ++ e

-- the name, `+` if it has one, and the exception
abbrev pub print_term : Term → List ℕ
print_term t = t.name ++ plus t.or_later ++ print_exception t.exception

-- there is one space on each side of an operator, and no other space is printed
abbrev pub print_piece : Piece → List ℕ
print_piece (Named t) = print_term t
print_piece And = codes " AND "
print_piece Or = codes " OR "
print_piece Open = codes "("
print_piece Close = codes ")"

abbrev pub print : List Piece → List ℕ
print ps = flat_map print_piece ps

-- ---- faults

abbrev pub print_expected : Expected → List ℕ
print_expected expected.Licence = codes "a licence or `(`"
print_expected expected.Exception = codes "an exception"
print_expected expected.Operator = codes "`AND` or `OR`"
print_expected expected.OperatorOrClose = codes "`AND`, `OR` or `)`"
print_expected expected.End = codes "the end"

abbrev pub print_found : Found → List ℕ
print_found found.End = codes "the end"
print_found found.Open = codes "`(`"
print_found found.Close = codes "`)`"
print_found found.Slash = codes "`/`"
print_found found.And = codes "`AND`"
print_found found.Or = codes "`OR`"
print_found found.With = codes "`WITH`"
print_found found.Licence = codes "a licence"
print_found found.Unknown = codes "a word that names no licence"

abbrev pub print_error : ParseError → List ℕ
print_error e =
    codes "failed to parse `" ++ string_bytes e.text ++ codes "` as a licence expression: expected "
    ++ print_expected e.expected ++ codes ", found " ++ print_found e.found

-- nothing is said of an allocation failure
abbrev pub print_refusal : ReadError → Option (List ℕ)
print_refusal (errors.Parse e) = Some (print_error e)
print_refusal (errors.Memory e) = None
