mod Declaring
