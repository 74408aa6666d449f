-- A typed request and the bytes that are made of it.
use Rattle.std.specs.Prelude.{◌≡◌, List, ◌++◌, ℕ, take, drop, Ok, Result}
use Rattle.request_text.specs.declared.Fault.{Fault}
use Rattle.request_format.specs.declared.fields.Shape.{Shape}
use Rattle.request_format.specs.declared.fields.Shape.TheVariants as S
use Rattle.requests.specs.Requests.{of_star}
use Rattle.request_format.specs.Input.{request_from, star_from, input_of, star_asked}
use Rattle.request_format.specs.Request.{size_for, bytes_for}
use Rattle.request_text.specs.Typing.{Typing, given, refused, typing_of, answer_of}

-- the buffer afterwards: first the bytes of the numbers typed; on a refusal, the old ones
abbrev pub bytes_from : Shape → Typing → List ℕ → List ℕ
bytes_from shape (given ns) old = bytes_for shape ns ++ drop (size_for shape) old
bytes_from shape (refused i f) old = old

-- the library reads in the bytes just the request of the numbers that were typed
abbrev pub ReadAs : Shape → Typing → List ℕ → Type 0
ReadAs S.Eclipse (given ns) bytes = input_of bytes ≡ Ok (request_from ns)
ReadAs S.Star (given ns) bytes = star_asked bytes ≡ Ok (of_star (star_from ns))
ReadAs shape (refused i f) bytes = Unit {0}

-- what is promised of an answer and the buffer
pub record Encoded (shape : Shape) (text old : List ℕ) (r : Result Unit (ℕ × Fault)) (new : List ℕ) : Type 0 where
  pub answer : r ≡ answer_of (typing_of shape text)
  pub bytes : new ≡ bytes_from shape (typing_of shape text) old
  pub read_as : ReadAs shape (typing_of shape text) (take (size_for shape) new)
