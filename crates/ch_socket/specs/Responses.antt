-- The lines by which a socket is told of its message.
use Rattle.std.specs.Prelude.{◌≡◌, ◌≢◌, ◌++◌, ℕ, Bool, not, List, [], Option, Some, None, is_some}
use Rattle.ch_base.specs.declared.frame.Frame.{Frame}
use Rattle.ch_base.specs.declared.frame.Frame.TheVariants.{Error}
use Rattle.ch_base.specs.declared.error_codes.TheConstants.{OUT_OF_MEMORY, RECONNECT}
use Rattle.ch_dispatch.specs.declared.response.Response.{Response}
use Rattle.ch_transcript.specs.Printing.{frame_line, end_lines}

-- the line of the frame that it is sent, if there is one
abbrev pub reply_lines : ℕ → Option Frame → List ℕ
reply_lines number None = []
reply_lines number (Some frame) = frame_line number frame

-- the lines that end its connection with a code, if it ends
abbrev pub ending_lines : ℕ → Option ℕ → List ℕ
ending_lines number None = []
ending_lines number (Some code) = end_lines number code

-- the response doesn't say that there was no memory
pub record HadMemory (response : Response) : Type 0 where
  pub heard : response.reply ≢ Some (Error OUT_OF_MEMORY)
  pub served : response.end ≢ Some RECONNECT

-- the response was written, and the connection goes on unless the response ends it
pub record TellsOf (number : ℕ) (response : Response) (old new : List ℕ) (goes_on : Bool) : Type 0 where
  pub memory : HadMemory response
  pub text : new ≡ old ++ (reply_lines number response.reply ++ ending_lines number response.end)
  pub on : goes_on ≡ not (is_some response.end)
